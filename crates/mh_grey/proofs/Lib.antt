pub mod QueueLemmas
pub mod ShadeLemmas
pub mod StampLemmas
