pub mod Weights
pub mod ClaimWord
pub mod Lock
pub mod Merges
pub mod Laws
pub mod Auxiliary
