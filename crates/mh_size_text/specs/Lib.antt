pub mod Sizes
pub mod Texts
pub mod Scripts
pub mod Auxiliary
