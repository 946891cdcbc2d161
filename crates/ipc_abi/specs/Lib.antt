pub mod Objects
pub mod Openings
pub mod Operations
pub mod Replies
pub mod Requests
pub mod Rules
