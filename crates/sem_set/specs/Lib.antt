pub mod Exits
pub mod Met
pub mod Sets
pub mod Trials
