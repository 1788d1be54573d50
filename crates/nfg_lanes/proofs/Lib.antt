pub mod Examples
pub mod FrontLemmas
pub mod MaskLemmas
pub mod NarrowLemmas
pub mod RunLemmas
pub mod WidthLemmas
