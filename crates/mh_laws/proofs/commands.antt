pub mod EachCommand
pub mod LeftUnchanged
pub mod CommandAnswers
