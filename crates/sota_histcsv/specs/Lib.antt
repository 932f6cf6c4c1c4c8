pub mod Words
pub mod Certain
pub mod Records
pub mod Histograms
pub mod Left
pub mod Kept
pub mod Repeats
pub mod Texts
