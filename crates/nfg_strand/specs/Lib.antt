pub use Rattle.nfg_block.specs.Lanes
pub mod Strand
pub mod Pieces
pub mod Value
