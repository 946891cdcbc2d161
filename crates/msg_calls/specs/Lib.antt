pub mod Calls
pub mod WithRoom
