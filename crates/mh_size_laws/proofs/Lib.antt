pub mod openings
