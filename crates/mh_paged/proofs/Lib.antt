pub mod FieldLemmas
pub mod KeptLemmas
pub mod MadeLemmas
pub mod StepLemmas
pub mod ShadeLemmas
