pub mod MutatorShares
pub mod RunTraces
