pub mod rows
pub mod picture_rows
pub mod seat_rows
pub mod room_rows
