mod Examples
mod JoinLemmas
mod OfferLemmas
mod PassLemmas
mod RowLemmas
mod TallyFields
mod TestLemmas
