pub mod AnsweredEvents
pub mod SpentUnits
