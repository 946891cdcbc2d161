pub mod Arrivals
pub mod Deadlines
pub mod Parked
pub mod Touched
pub mod Waits
