pub mod LineLemmas
pub mod NameLemmas
pub mod PhraseLemmas
pub mod ReadBack
pub mod SaidLemmas
pub mod ScriptLength
pub mod TakenLemmas
pub mod WritingLemmas
