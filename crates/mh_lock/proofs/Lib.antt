pub mod SeatNumbers
pub mod LockSteps
pub mod LockSeats
pub mod ClosedLocks
pub mod CalledLocks
