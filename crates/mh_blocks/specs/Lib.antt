pub mod Marks
pub mod Auxiliary
