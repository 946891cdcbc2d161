pub mod Filed
pub mod Lives
