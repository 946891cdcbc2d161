pub mod Faults
pub mod Images
pub mod Lends
pub mod Slots
pub mod Table
