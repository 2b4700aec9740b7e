mod BoxLemmas
mod HallLemmas
mod StepLemmas
