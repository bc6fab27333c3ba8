pub mod Kept
pub mod Telling
pub mod Lawful
pub mod Auxiliary
