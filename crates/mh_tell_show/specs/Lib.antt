pub mod Cursor
pub mod Rows
pub mod Before
pub mod Page
pub mod LeftOut
pub mod Bounds
pub mod BeforeLaws
pub mod Auxiliary
