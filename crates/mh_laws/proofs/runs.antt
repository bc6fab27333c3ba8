pub mod EveryMoment
