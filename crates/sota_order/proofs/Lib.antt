pub mod Reaching
pub mod Turning
pub mod Nexting
pub mod ThreeRoads
