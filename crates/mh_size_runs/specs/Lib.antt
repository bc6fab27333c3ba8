pub mod Full
pub mod Tried
pub mod Fewest
pub mod Seen
pub mod Rows
pub mod Live
pub mod Auxiliary
