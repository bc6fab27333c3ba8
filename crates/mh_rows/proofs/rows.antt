pub mod Worked
pub mod SizeClasses
pub mod Tables
pub mod Views
pub mod Worlds
pub mod Histories
