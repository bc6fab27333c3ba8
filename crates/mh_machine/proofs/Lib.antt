pub mod JudgeLemmas
pub mod ReservedLemmas
pub mod RunningLemmas
