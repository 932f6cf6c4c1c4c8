mod Colons
mod Few
mod Names
pub mod Confidence
