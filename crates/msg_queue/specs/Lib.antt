pub mod Links
pub mod Messages
pub mod Others
pub mod Queues
pub mod Types
pub mod Words
