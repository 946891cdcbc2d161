pub mod Cells
pub mod Rights
