pub mod Time
pub mod Pairs
pub mod Build
pub mod Words
pub mod Laws
