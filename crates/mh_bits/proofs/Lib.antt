pub mod BitLemmas
pub mod SetLemmas
pub mod PlaceLemmas
pub mod ZeroLemmas
