pub mod Agreement
pub mod FullHeaps
pub mod FullAlone
pub mod Moments
pub mod FullWorlds
