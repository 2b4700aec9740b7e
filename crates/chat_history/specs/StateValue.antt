-- What a state holds.
use Rattle.std.specs.Prelude.{ℕ, ◌+◌, ◌≡◌, ◌≢◌, ◌<◌, ◌↔◌, Bool, List, [], ◌∷◌, ◌++◌, length, slice_get, Some, if◌then◌else◌}
use Rattle.std.specs.FinMap.{FinMap}
use Rattle.chat_change.specs.declared.change.Change.{Change}
use Rattle.chat_change.specs.Key.{key_cmp, key_of}
use Rattle.chat_history.specs.History.{History, norm, changes_of}
use Rattle.chat_history.specs.Numbering.{front, numbers, numbers_after}

pub record StateValue : Type 0 where
  pub history : History
  pub numbers : FinMap key_cmp ℕ
  pub front : ℕ

-- what a state holds that has taken these changes, from `start` on
abbrev pub state_after : ℕ → List Change → StateValue
state_after start changes = record {
  history = norm changes;
  numbers = numbers start changes;
  front = front start changes;
}

-- the history that a state has which takes more
abbrev pub history_with : StateValue → List Change → History
history_with h more = norm (changes_of h.history ++ more)

-- the numbers are those of a state that took a change, which counted or didn't
abbrev pub AreNumbersWith : Bool → StateValue → Change → StateValue → Type 0
AreNumbersWith counted old c new =
    new.numbers ≡
    (if counted then numbers_after old.numbers new.history (key_of c) (old.front + 1)
    else old.numbers)

-- the greatest number that a piece can have
abbrev pub greatest_number : ℕ
greatest_number = 18446744073709551615

-- the front is at its last value, and the change would still change the history
abbrev pub IsPastTheLast : StateValue → Change → Type 0
IsPastTheLast h c = (h.front ≡ greatest_number) × (history_with h (c ∷ []) ≢ h.history)

-- what a state holds, whatever it had taken before, after it took more
abbrev pub HasTaken : StateValue → List Change → StateValue → Type 0
HasTaken old more new =
    (start : ℕ) (changes : List Change) → old ≡ state_after start changes →
    new ≡ state_after start (changes ++ more)

-- a list was taken up to a place: a change stands there, and for want of a number it was refused
-- exactly where it would have been past the last one
abbrev pub IsStoppedAt : StateValue → List Change → ℕ → Type 0 → Type 0
IsStoppedAt h changes taken Exhausted =
    (taken < length changes) ×
    ((c : Change) → slice_get changes taken ≡ Some c → Exhausted ↔ IsPastTheLast h c)
