mod ClientTextLemmas
mod CuttingLemmas
mod EntriesLemmas
mod LengthLemmas
mod LookupLemmas
mod MergingLemmas
mod ReadBackLemmas
mod RewriteLemmas
mod StandingLemmas
mod TextLemmas
mod ValueLemmas
pub mod CallerLemmas
