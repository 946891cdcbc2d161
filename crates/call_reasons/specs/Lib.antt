pub mod Asked
pub mod Cases
pub mod Denials
pub mod Trials
pub mod Waits
