pub mod Bounds
pub mod Ends
pub mod Memory
pub mod Runs
pub mod Telling
