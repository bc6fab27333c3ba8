pub mod Texts
pub mod Tasks
pub mod Lines
pub mod Run
pub mod Promised
pub mod Histories
