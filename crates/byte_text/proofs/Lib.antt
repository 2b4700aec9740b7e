mod PositionLemmas
mod FoundLemmas
mod LookLemmas
mod WordLemmas
mod OrderLemmas
mod TextsLemmas
mod NumberLemmas
pub mod CallerLemmas
