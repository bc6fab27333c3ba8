pub mod CycleSteps
pub mod Barriers
pub mod NewObjects
pub mod SessionCommands
pub mod CycleStarts
pub mod RunningCycles
pub mod BarrierLaws
pub mod SteadyStates
