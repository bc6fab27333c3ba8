pub mod NumbersWrittenAgain
pub mod WordsWrittenAgain
pub mod FormsWrittenAgain
pub mod DumpsWrittenAgain
pub mod RepliesWrittenAgain
pub mod EntriesWrittenAgain
pub mod HeadersWrittenAgain
pub mod HistoriesWrittenAgain
