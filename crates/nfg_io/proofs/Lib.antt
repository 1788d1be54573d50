pub mod SinkLemmas
pub mod CallsLemmas
pub mod EntriesLemmas
pub mod OpenPathMade
pub mod Examples
