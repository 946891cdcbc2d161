pub mod Accesses
pub mod Answered
pub mod Desks
pub mod Kept
