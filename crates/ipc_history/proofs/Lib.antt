pub mod Access
pub mod Naming
pub mod Rights
pub mod Runs
