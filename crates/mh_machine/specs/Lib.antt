pub mod Judging
pub mod Reserved
pub mod Rules
pub mod Running
pub mod Telling
pub mod Auxiliary
