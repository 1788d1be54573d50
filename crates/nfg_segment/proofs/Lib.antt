pub mod Examples
pub mod Keeping
pub mod KeptLemmas
mod LineEnds
pub mod Machine
pub mod Marked
pub mod Passing
pub mod OneCluster
pub mod PlainLines
pub mod PlainSteps
pub mod Reaching
pub mod SafeRuns
pub mod SettledRuns
pub mod Stable
pub mod Steps
pub mod TextLemmas
