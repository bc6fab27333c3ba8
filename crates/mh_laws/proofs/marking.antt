pub mod BatchSteps
pub mod MarkingPaths
pub mod BlockChanges
pub mod SameTable
pub mod MarkSteps
