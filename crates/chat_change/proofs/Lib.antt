mod WordsLemmas
mod TagsLemmas
mod OrderLemmas
mod KeyLemmas
mod ShortTextLemmas
mod FaultsLemmas
pub mod CallerLemmas
mod MessageTextsLemmas
