pub mod Lowest
pub mod Shares
pub mod ShareRules
pub mod Pauses
pub mod PauseRules
pub mod Always
pub mod Lengths
pub mod Auxiliary
