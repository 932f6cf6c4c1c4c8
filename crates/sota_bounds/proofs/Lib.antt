pub mod Joined
pub mod Settling
pub mod Settled
pub mod Queued
pub mod Earliest
pub mod Adding
pub mod Counted
pub mod Missing
mod Leaving
