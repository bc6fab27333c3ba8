pub mod ObjectsShown
pub mod FoundBlocks
pub mod SamePlainBlocks
