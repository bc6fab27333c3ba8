pub mod Tallies
pub mod Lines
pub mod Auxiliary
