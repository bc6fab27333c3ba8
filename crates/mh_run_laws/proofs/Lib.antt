pub mod marking
pub mod runs
pub mod trace
pub mod snapshots
