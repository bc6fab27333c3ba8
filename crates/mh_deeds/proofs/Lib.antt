pub mod LogLemmas
pub mod ToldLemmas
