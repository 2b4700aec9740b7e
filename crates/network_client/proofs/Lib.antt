pub mod RingLemmas
pub mod StepLemmas
pub mod NewcomerLemmas
pub mod EnterLemmas
pub mod AskLemmas
