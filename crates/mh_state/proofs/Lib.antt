pub mod PlainReplies
pub mod RunLemmas
pub mod StoringLemmas
