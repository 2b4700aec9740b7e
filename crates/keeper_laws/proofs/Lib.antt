mod MadeLemmas
mod OtherLemmas
mod RestartLemmas
mod SentLemmas
mod StemLemmas
