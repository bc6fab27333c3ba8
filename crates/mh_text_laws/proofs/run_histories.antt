pub mod Forwarders
pub mod Dumps
pub mod Worlds
pub mod Replies
pub mod Scripts
pub mod Records
