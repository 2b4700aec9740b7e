pub mod CallerLemmas
mod CutLemmas
mod EntryLemmas
mod LifeLemmas
mod Moments
mod ReadLemmas
