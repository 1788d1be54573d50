pub mod Clips
pub mod Commons
mod Examples
pub mod Joins
pub mod Places
pub mod Positions
pub mod Ranges
pub mod Repeats
