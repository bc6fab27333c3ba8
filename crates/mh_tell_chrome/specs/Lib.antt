pub mod TraceEvents
pub mod Deeds
pub mod Runs
pub mod Laws
pub mod Auxiliary
