pub mod Fresh
pub mod Known
pub mod Least
pub mod Longer
pub mod Trees
