pub mod Laws
pub mod Met
pub mod Runs
pub mod Steps
pub mod Summed
