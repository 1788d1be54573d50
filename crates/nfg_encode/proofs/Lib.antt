mod Examples
pub mod CodeLemmas
pub mod LawLemmas
pub mod PartLemmas
pub mod TextLemmas
