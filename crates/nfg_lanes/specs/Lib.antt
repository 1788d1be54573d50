pub mod Lanes
pub mod Stops
