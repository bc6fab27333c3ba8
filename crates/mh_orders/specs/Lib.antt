pub mod Given
pub mod Profiles
pub mod Steps
pub mod Auxiliary
