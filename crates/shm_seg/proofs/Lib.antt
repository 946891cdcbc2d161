pub mod Changes
pub mod Copies
pub mod Counts
pub mod Kept
pub mod Least
pub mod Numbers
