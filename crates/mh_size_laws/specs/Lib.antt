pub mod Worlds
pub mod Room
pub mod Rates
pub mod Rooms
