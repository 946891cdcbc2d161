pub mod Given
pub mod Journal
