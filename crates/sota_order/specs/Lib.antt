pub mod Orders
pub mod Queue
