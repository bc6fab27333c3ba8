pub mod Lists
pub mod objects
pub mod marking
pub mod TableMapLemmas
pub mod PageMapLemmas
pub mod placing
pub mod tables
