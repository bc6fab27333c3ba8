pub mod PageSlots
pub mod BlockRoom
