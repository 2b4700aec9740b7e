mod SecretLemmas
mod FirstLemmas
mod NameLemmas
mod TermsLemmas
mod AloneLemmas
pub mod CallerLemmas
