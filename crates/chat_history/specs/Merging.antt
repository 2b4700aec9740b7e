-- The pieces of a state by rising number, as another state takes them.
use Rattle.std.specs.Prelude.{ℕ, ◌≡◌, ◌++◌, List, map, take, unwrap_or}
use Rattle.std.specs.List.{IsDistinct}
use Rattle.std.specs.List.Sorted.{IsNonDecreasingBy}
use Rattle.std.specs.FinMap.{get}
use Rattle.chat_change.specs.declared.change.Change.{Change}
use Rattle.chat_change.specs.Key.{key_of, same_key}
use Rattle.chat_history.specs.History.{History, norm, changes_of, join, SameSet}
use Rattle.chat_history.specs.StateValue.{StateValue, HasTaken, IsStoppedAt}

-- the number of the piece that bears the key of a change, or 0
abbrev pub number_in : StateValue → Change → ℕ
number_in h c = unwrap_or (get h.numbers (key_of c)) 0

-- the pieces of what a state holds, each once, by rising number
pub record IsByNumber (h : StateValue) (turn : List Change) : Type 0 where
  pub pieces : SameSet turn (changes_of h.history)
  pub once : IsDistinct same_key (map key_of turn)
  pub rising : IsNonDecreasingBy (number_in h) turn

-- of the pieces of another state by rising number the first so many were taken, and the next one
-- wasn't
pub record TakesFirst (old other new : StateValue) (taken : ℕ) (Exhausted : Type 0) : Type 0 where
  pub turn : List Change
  pub by_number : IsByNumber other turn
  pub history : new.history ≡ norm (changes_of old.history ++ take taken turn)
  pub held : HasTaken old (take taken turn) new
  pub stopped : IsStoppedAt new turn taken Exhausted

-- all pieces of another state were taken, by rising number
pub record TakesAll (old other new : StateValue) : Type 0 where
  pub turn : List Change
  pub by_number : IsByNumber other turn
  pub history : new.history ≡ norm (changes_of old.history ++ turn)
  pub held : HasTaken old turn new

-- the history of two states together
abbrev pub history_of_both : StateValue → StateValue → History
history_of_both one other = join (changes_of one.history) (changes_of other.history)
