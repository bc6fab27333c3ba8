pub mod Logs
pub mod Reasons
pub mod Auxiliary
