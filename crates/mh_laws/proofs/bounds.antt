pub mod CommandsKeepBounds
pub mod WorkLeft
pub mod CycleBounds
pub mod CyclesInTime
pub mod StepsOfACycle
pub mod SizedTables
