pub mod EqualReplies
pub mod StepRules
pub mod LegalHistories
pub mod OneVerdict
pub mod SomeVerdict
