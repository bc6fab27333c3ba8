pub mod AlikeTables
pub mod MarkingShows
pub mod SweepShows
pub mod MovesShow
pub mod StepsShow
pub mod QuantaShow
pub mod ClosedViews
