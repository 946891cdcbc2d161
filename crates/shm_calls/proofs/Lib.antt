pub mod Detaching
pub mod Forking
pub mod Leaving
pub mod Renewing
