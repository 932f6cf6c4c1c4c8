pub mod Pairs
pub mod Valid
