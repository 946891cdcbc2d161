pub mod Failures
pub mod Objects
pub mod Operations
pub mod Users
