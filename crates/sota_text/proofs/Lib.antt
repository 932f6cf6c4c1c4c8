pub mod Digits
pub mod LineEnds
pub mod Parts
pub mod Places
pub mod Texts
