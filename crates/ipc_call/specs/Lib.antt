pub mod Errors
pub mod Flags
pub mod Limits
pub mod Listings
pub mod Rules
