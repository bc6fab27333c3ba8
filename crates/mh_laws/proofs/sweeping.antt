pub mod SweptTables
pub mod SweepSteps
