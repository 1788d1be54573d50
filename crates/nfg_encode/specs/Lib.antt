pub use Rattle.nfg_decode.specs.Encoding
pub use Rattle.nfg_text.specs.Text
pub mod Refusal
