pub mod WorldReplies
