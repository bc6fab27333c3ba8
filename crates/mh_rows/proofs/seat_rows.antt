pub mod Claims
pub mod Locks
pub mod Merges
