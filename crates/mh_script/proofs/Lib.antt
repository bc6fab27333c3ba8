pub mod HistoryLemmas
pub mod LineLemmas
pub mod PromiseLemmas
pub mod RunLemmas
pub mod TakenLemmas
pub mod TaskLemmas
