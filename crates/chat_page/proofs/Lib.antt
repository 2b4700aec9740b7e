mod LastLemmas
mod CutLemmas
mod PointLemmas
mod AnswerLemmas
mod KnownLemmas
mod KeptLemmas
