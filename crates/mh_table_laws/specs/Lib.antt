pub mod Tables
pub mod Marking
pub mod TableMaps
pub mod Auxiliary
