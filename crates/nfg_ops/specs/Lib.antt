pub mod Cuts
pub mod Places
pub mod Precedes
pub mod Reads
pub mod Walk
