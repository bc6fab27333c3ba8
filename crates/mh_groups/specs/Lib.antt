pub mod Auxiliary
