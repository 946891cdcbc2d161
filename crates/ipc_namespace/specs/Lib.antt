pub mod Looking
pub mod Namespace
pub mod Touching
pub mod Wanting
