mod TranscriptLemmas
mod LineBufferLemmas
mod PlaceLemmas
mod UnreadLemmas
pub mod CallerLemmas
