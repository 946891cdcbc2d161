pub mod Keys
pub mod Lends
