pub mod LogLemmas
pub mod ReasonLemmas
