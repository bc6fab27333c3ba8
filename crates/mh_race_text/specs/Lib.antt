pub mod Raced
