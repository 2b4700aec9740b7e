mod ParameterLemmas
mod GivenLemmas
mod WordLemmas
mod ReferenceLemmas
mod ItemLemmas
mod BufferLemmas
mod WalkLemmas
mod ListingLemmas
mod PostedLemmas
mod OwnPastLemmas
mod AnswerLemmas
mod OwnAnswerLemmas
mod TagLemmas
mod MessageLemmas
mod LinesLemmas
mod ToldLemmas
mod AnswerLinesLemmas
pub mod CallerLemmas
