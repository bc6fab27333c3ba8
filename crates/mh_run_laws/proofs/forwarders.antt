pub mod RunForwarders
