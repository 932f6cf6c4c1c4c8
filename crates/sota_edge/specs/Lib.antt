pub mod Counts
pub mod Desk
pub mod Sink
pub mod SureDesk
pub mod MemoryDesk
pub mod SureSink
pub mod MemorySink
