mod HandedSteps
mod LooseSteps
mod More
mod Placed
