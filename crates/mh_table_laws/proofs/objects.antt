pub mod Parts
pub mod Headers
pub mod MadeGroups
pub mod RefusedObjects
pub mod JoinedFields
