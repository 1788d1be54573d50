pub use Rattle.nfg_lanes.specs.Lanes
pub mod Block
pub mod Cells
pub mod Runs
