pub mod ClaimSteps
pub mod FinishedClaims
