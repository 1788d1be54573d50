mod Examples
pub mod Blanks
pub mod CodePoints
pub mod Digits
pub mod Lines
pub mod LinesRead
pub mod Loads
pub mod Places
pub mod Texts
