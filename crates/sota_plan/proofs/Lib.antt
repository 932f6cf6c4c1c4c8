mod Extends
pub mod Extended
pub mod Extending
pub mod FedMore
mod Making
mod Meeting
pub mod Places
pub mod Preparing
pub mod Readying
pub mod Stepping
pub mod SumGoing
