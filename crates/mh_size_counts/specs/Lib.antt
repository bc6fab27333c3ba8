pub mod Choices
pub mod Targets
pub mod Rates
pub mod Room
pub mod Texts
