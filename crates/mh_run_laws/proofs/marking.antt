pub mod MarkedOnce
pub mod ReachableNow
