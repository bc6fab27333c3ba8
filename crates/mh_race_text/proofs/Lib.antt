pub mod RacedLemmas
pub mod TaskLemmas
