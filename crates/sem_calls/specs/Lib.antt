pub mod Calls
pub mod WithRows
pub mod Operations
