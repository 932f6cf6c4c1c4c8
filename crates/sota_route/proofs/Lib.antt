pub mod Along
pub mod Legs
pub mod Values
pub mod Weighing
