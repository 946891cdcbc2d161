pub mod Access
pub mod History
pub mod Made
pub mod Waits
