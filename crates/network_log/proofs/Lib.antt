mod ItemLemmas
pub mod CallerLemmas
