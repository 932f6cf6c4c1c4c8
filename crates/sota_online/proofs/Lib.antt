mod Widened
pub mod Blocks
pub mod Counts
pub mod Landing
pub mod Parts
pub mod Places
pub mod Putting
pub mod Split
pub mod Squares
pub mod Worked
