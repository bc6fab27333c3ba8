pub mod Program
pub mod Status
pub mod Complaints
pub mod Auxiliary
