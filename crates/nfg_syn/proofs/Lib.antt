mod Examples
mod HashChainsLemmas
mod OwnTextsLemmas
mod SpellingLemmas
mod TextListLemmas
