pub mod PairSums
pub mod Tiles
