mod HeldLemmas
mod RegistrationLemmas
mod RegisteredLemmas
mod EventLemmas
mod SightLemmas
mod DirectoryLemmas
mod LinesLemmas
mod SentLemmas
pub mod CallerLemmas
