pub mod Counter
pub mod Service
pub mod Swap
pub mod Swapping
