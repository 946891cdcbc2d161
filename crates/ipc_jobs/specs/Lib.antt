pub mod Calls
pub mod Courses
pub mod Rows
pub mod Working
