pub mod SizeLemmas
pub mod TellingLemmas
