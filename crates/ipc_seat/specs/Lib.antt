pub mod Codes
pub mod Journals
pub mod Openings
pub mod Raw
pub mod Seats
