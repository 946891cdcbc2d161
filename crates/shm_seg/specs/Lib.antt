pub mod Attachments
pub mod Bytes
pub mod Codes
pub mod Faults
pub mod Inside
pub mod Segments
