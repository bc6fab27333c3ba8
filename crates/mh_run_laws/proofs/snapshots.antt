pub mod AgreeingWorlds
