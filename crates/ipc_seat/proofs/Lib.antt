pub mod Following
mod Firsts
mod Resting
