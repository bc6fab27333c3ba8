pub mod Fields
pub mod Figures
pub mod Lines
pub mod Names
pub mod Steps
