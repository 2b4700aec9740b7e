mod InputLemmas
mod BatchLemmas
mod EventLemmas
