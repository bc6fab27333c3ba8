pub mod StretchLemmas
pub mod GrowthLemmas
pub mod FloorLemmas
