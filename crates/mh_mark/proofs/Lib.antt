pub mod ReferenceLemmas
pub mod MarkLemmas
pub mod KeptLemmas
pub mod FrontLemmas
pub mod ToldLemmas
