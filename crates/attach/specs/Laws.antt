-- What holds of the places, whatever steps the seats have made.
use Rattle.std.specs.Prelude.{◌≡◌, ◌≢◌, ◌⊎◌, ℕ, ◌<◌}
use Rattle.attach.specs.Steps.{PlaceState, Reached, Holds, word_at, free_word, taken_word}

-- two stands, which are two seats that hold a place each, have different places
abbrev pub TwoStandsHaveDifferentPlaces : Type 0
TwoStandsHaveDifferentPlaces = (count : ℕ) (s : PlaceState) (one other place elsewhere : ℕ)
    → Reached count s → one ≢ other → Holds s.views one place → Holds s.views other elsewhere
    → place ≢ elsewhere

-- the word of a place that a seat holds is the taken one
abbrev pub AHeldPlaceIsTaken : Type 0
AHeldPlaceIsTaken = (count : ℕ) (s : PlaceState) (seat place : ℕ) → Reached count s
    → Holds s.views seat place → word_at s place ≡ taken_word

-- each place is free, or a seat holds it
abbrev pub APlaceIsFreeOrHeld : Type 0
APlaceIsFreeOrHeld = (count : ℕ) (s : PlaceState) (place : ℕ) → Reached count s → place < count
    → (word_at s place ≡ free_word) ⊎ ((seat : ℕ) × Holds s.views seat place)
