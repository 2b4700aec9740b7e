mod CommandLemmas
mod LineLemmas
mod FaultsLemmas
mod ReadLemmas
mod StreamLemmas
mod SearchLemmas
mod CallsLemmas
mod TextLemmas
mod LinesLemmas
mod WordLemmas
mod WholeLemmas
pub mod CallerLemmas
