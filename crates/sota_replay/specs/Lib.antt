pub mod Trip
pub mod Tally
