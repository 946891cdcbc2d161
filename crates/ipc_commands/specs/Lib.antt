pub mod Commands
pub mod Options
pub mod Programs
pub mod Removals
pub mod Values
