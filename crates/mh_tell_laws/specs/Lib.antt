pub mod Picture
pub mod PictureLaws
pub mod Cycles
pub mod CycleLaws
pub mod Auxiliary
