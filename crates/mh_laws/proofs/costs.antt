pub mod Quanta
pub mod QuantumStarts
