pub mod Search
pub mod Range
pub mod Faults
pub mod AskFaults
pub mod Cells
pub mod Regions
pub mod Affected
