pub mod PieceLemmas
pub mod TeamLemmas
