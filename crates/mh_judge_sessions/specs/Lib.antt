pub mod Faults
pub mod Full
pub mod Laws
pub mod Texts
pub mod Watching
pub mod WatchRules
pub mod Auxiliary
