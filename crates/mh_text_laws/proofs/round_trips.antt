pub mod WordRoundTrips
pub mod ReplyRoundTrips
pub mod EntryRoundTrips
pub mod HeaderRoundTrips
pub mod HistoryRoundTrips
