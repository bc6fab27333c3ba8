pub mod CutLemmas
pub mod TurnLemmas
pub mod FeedLemmas
pub mod LineTurns
pub mod PromiseLemmas
pub mod RunAnswers
pub mod TalkLemmas
pub mod WorldLemmas
