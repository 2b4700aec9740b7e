mod Lists
mod HeldLemmas
