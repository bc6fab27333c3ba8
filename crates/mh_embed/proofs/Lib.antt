pub mod EndingLemmas
pub mod NumberLemmas
pub mod PromiseLemmas
pub mod RecalledLemmas
pub mod ReservedLemmas
pub mod TurnLemmas
