pub mod Status
pub mod CommandLine
pub mod WordTexts
pub mod ClapCommand
pub mod Generator
pub mod Answer
pub mod Headline
