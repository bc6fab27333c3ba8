pub mod Racing
pub mod Auxiliary
