pub mod WithinEvents
