pub mod ShadingLemmas
pub mod MarkLemmas
pub mod SweepLemmas
pub mod StepLemmas
pub mod QuantumLemmas
pub mod CommandLemmas
pub mod RunLemmas
pub mod DumpLemmas
