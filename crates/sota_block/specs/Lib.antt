pub mod Meeting
pub mod Pairs
pub mod Product
