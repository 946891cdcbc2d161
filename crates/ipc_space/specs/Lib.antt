pub mod Answers
pub mod Comparing
pub mod Following
pub mod Openings
pub mod Replays
pub mod Spaces
pub mod Telling
