pub mod Products
pub mod Squares
pub mod Summer
