pub mod FloorLemmas
pub mod LimitLemmas
pub mod ShareLemmas
pub mod QuantumLemmas
pub mod RateLemmas
pub mod RoomLemmas
