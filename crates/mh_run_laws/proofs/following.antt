pub mod SlotCommands
pub mod WrittenFields
pub mod NewObject
pub mod AllCommands
