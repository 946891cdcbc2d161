pub mod LineText
pub mod Lines
pub mod Names
pub mod Numbers
pub mod Steps
pub mod Words
