pub mod BirthLemmas
pub mod ClosedLemmas
pub mod PlainLemmas
