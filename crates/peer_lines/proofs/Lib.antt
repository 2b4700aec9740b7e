mod NumberLemmas
mod WordLemmas
mod ChangeLemmas
mod LineLemmas
mod GatherLemmas
mod CutLemmas
mod WrittenLemmas
