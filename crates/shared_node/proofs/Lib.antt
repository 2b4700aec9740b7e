-- for crates above
pub mod CallerLemmas
mod PrefixLemmas
mod GrowingLemmas
mod StateLemmas
mod VersionLemmas
mod ReadLemmas
