pub mod State
pub mod Snapshots
pub mod Auxiliary
