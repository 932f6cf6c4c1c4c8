pub mod BankLends
pub mod Layout
pub mod Lends
pub mod Ownership
pub mod Places
pub mod Region
pub mod RegionLends
pub mod Rows
