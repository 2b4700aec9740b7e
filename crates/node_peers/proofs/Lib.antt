mod LinkLemmas
mod ServedLemmas
mod TableLemmas
mod TalkLemmas
