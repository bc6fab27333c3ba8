pub mod ExplainedLemmas
pub mod FollowingLemmas
pub mod LongLemmas
pub mod MigratedLemmas
pub mod PerformedLemmas
pub mod RecordLemmas
pub mod ReplayLemmas
