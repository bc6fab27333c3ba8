pub mod Services
pub mod Sharing
pub mod Auxiliary
