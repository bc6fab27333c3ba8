pub mod RecordLength
pub mod LettersAdded
pub mod MigratedRecords
