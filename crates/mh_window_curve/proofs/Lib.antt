pub mod PartLemmas
pub mod WindowLemmas
pub mod TallyLemmas
pub mod ReasonLemmas
pub mod RunLemmas
pub mod PlaceLemmas
