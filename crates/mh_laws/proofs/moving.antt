pub mod MoveSteps
pub mod NextMove
