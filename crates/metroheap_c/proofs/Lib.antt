pub mod AsBox
pub mod CodeLemmas
