pub mod Steps
pub mod Roads
pub mod Tallies
