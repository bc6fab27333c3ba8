pub mod BlockLemmas
pub mod LengthLemmas
pub mod NestLemmas
pub mod QuantumLemmas
pub mod RunLemmas
pub mod SceneLemmas
pub mod TextLemmas
pub mod TotalLemmas
