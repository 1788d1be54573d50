pub use Rattle.nfg_syn.specs.Learned
pub mod Collected
pub mod Load
pub mod Numbering
pub mod Numbers
pub mod Reading
pub mod Stream
