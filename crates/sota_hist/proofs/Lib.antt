pub mod Least
pub mod Ticks
pub mod Parting
pub mod Picking
pub mod Repeats
pub mod Order
pub mod Building
pub mod Known
