pub mod Merging
pub mod Noted
