pub mod Beginnings
pub mod Auxiliary
