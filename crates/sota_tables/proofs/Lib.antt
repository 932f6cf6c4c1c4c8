pub mod Viewing
pub mod Keeping
pub mod TwoNodes
