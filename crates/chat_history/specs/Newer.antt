-- The pieces of a state that are newer than a number, as they are sent.
use Rattle.std.specs.Prelude.{ℕ, ◌≡◌, ◌<◌, ◌↔◌, Contains, Some, List, map, take}
use Rattle.std.specs.List.{IsDistinct}
use Rattle.std.specs.List.Sorted.{IsNonDecreasingBy}
use Rattle.std.specs.FinMap.{get}
use Rattle.chat_change.specs.Key.{key_of, same_key}
use Rattle.chat_change.specs.declared.change.Change.{Change}
use Rattle.chat_history.specs.StateValue.{StateValue}

-- what a state holds has that change under that number
abbrev pub HasPiece : StateValue → ℕ × Change → Type 0
HasPiece h e = (get h.history (key_of e.1) ≡ Some e.1) × (get h.numbers (key_of e.1) ≡ Some e.0)

-- the pieces of what a state holds with numbers above `from`, each once, by rising number
pub record IsNewer (h : StateValue) (from : ℕ) (turn : List (ℕ × Change)) : Type 0 where
  pub pieces : (e : ℕ × Change) → Contains turn e ↔ (HasPiece h e × (from < e.0))
  pub once : IsDistinct same_key (map (λ (e : ℕ × Change). key_of e.1) turn)
  pub rising : IsNonDecreasingBy (λ (e : ℕ × Change). e.0) turn

-- the first of them, at most so many as a limit
abbrev pub AreFirstNewer : StateValue → ℕ → ℕ → List (ℕ × Change) → Type 0
AreFirstNewer h from limit first =
    (turn : List (ℕ × Change)) × IsNewer h from turn × (first ≡ take limit turn)
