pub mod Text
pub mod Spans
pub mod Words
