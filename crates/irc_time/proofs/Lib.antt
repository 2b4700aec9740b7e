mod DayLemmas
mod MomentLemmas
mod PartsLemmas
mod ReadingLemmas
mod GreatestLemmas
mod TextLemmas
pub mod CallerLemmas
