pub mod Orphans
pub mod Told
pub mod Text
