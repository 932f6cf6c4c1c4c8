pub mod Ticks
pub mod LeastTime
pub mod Edits
pub mod NodeTables
pub mod States
pub mod TableLists
pub mod Asks
pub mod Laws
