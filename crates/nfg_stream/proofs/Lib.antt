mod Examples
pub mod Holding
pub mod Numbered
pub mod Interned
pub mod NumbersLemmas
pub mod NarrowNumbers
pub mod PassedOver
pub mod CollectedLemmas
pub mod GraphemeTexts
pub mod ReadingLemmas
pub mod StreamLemmas
