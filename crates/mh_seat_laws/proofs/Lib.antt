pub mod TotalLemmas
pub mod claim_word
