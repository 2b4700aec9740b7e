mod TestLemmas
mod WordsLemmas
mod NumberLemmas
mod PostLineLemmas
mod ReadBackLemmas
mod SpellingLemmas
mod StandsLemmas
pub mod CallerLemmas
