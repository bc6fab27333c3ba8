pub mod ShownLocks
pub mod TakesAndGives
pub mod MergedLogs
