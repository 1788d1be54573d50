pub mod Benches
pub mod ElementLemmas
pub mod GraphemeLemmas
pub mod SampleLemmas
pub mod TextLemmas
