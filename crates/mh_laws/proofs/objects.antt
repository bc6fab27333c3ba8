pub mod NewbornBlocks
