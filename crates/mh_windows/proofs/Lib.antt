pub mod LowestLemmas
pub mod ShareLemmas
pub mod PauseLemmas
pub mod AlwaysLemmas
pub mod LengthLemmas
