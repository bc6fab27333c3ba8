pub mod Scripts
pub mod Profiles
pub mod Asked
pub mod Taken
pub mod Generated
pub mod Auxiliary
