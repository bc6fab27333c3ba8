pub mod RunLemmas
pub mod StartLemmas
pub mod TallyLemmas
pub mod UnderwayLemmas
pub mod WatchLemmas
