pub mod EndLemmas
pub mod RecallLemmas
