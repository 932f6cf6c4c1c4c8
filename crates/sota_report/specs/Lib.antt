pub mod Words
pub mod Names
pub mod Resolved
pub mod Objects
pub mod Kept
pub mod Laws
