mod DifferingLemmas
mod EntryLemmas
mod NamingLemmas
mod TableLemmas
