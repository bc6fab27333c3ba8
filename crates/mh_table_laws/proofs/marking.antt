pub mod GreyList
pub mod BatchMarking
