pub mod Rooms
pub mod KeptRoom
pub mod FirstParts
pub mod QuietEvents
pub mod Moves
pub mod Quanta
