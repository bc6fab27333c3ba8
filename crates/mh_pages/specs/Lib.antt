pub mod Words
pub mod Addresses
pub mod FreePlaces
pub mod Auxiliary
