pub mod ClosedServices
pub mod SharedStates
