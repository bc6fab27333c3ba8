pub mod Accounts
pub mod Logs
pub mod Auxiliary
