pub mod Calls
pub mod Layout
pub mod Laws
pub mod Operations
pub mod Ranges
pub mod Replies
pub mod Requests
