pub mod MadeParts
pub mod Intervals
