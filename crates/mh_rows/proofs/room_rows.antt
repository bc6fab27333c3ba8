pub mod RoomInARow
pub mod RoomAtARate
