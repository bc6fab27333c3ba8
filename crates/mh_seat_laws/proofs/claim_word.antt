pub mod ShownClaims
pub mod DrawRule
pub mod DrawnNumbers
