pub mod FoundFields
