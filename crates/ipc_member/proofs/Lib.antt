pub mod Advancing
pub mod Numbers
