pub mod Checks
pub mod Outcome
pub mod PlainHeap
pub mod PlainShown
pub mod PlainWorld
pub mod Shown
