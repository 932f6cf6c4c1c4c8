pub mod Needs
pub mod Bounds
