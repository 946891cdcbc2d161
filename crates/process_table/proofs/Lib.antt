pub mod Beginning
pub mod Changing
pub mod Finding
pub mod Indexing
pub mod Numbering
pub mod Rising
