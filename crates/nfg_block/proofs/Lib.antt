pub mod Examples
pub mod FrontLemmas
pub mod FindLemmas
