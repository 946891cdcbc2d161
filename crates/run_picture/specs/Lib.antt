pub mod Entering
pub mod Lanes
pub mod Layout
pub mod Picture
pub mod Plots
pub mod Words
