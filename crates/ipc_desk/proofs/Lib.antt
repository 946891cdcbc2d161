pub mod Coming
pub mod Ends
pub mod Given
pub mod Slots
pub mod Taking
