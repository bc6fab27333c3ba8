pub mod NewRacers
pub mod RacedCalls
pub mod RunSeats
