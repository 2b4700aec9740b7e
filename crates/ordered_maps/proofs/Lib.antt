mod MapViewLemmas
mod ElementLemmas
mod KeyLemmas
mod PageLemmas
mod SplitLemmas
mod LookupLemmas
mod SearchLemmas
mod ChangeLemmas
pub mod CallerLemmas
mod PartLemmas
mod EntriesLemmas
mod CloneLemmas
mod RetainLemmas
