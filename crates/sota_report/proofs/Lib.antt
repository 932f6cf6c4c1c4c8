pub mod Entries
pub mod Firsts
pub mod FieldByField
pub mod Once
pub mod Texts
