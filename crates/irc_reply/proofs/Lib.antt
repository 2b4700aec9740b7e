mod ReplyLemmas
mod TaggedLemmas
pub mod CallerLemmas
