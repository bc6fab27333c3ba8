pub mod Runs
pub mod Promise
pub mod Replays
