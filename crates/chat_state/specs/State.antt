-- What a state is seen as, and what always holds of its store.
use Rattle.std.specs.Prelude.{ℕ, ◌≡◌, ◌≤◌, ◌<◌, Some}
use Rattle.std.specs.FinMap as finite
use Rattle.chat_change.specs.Key.{Key, key_cmp}
use Rattle.chat_history.specs.StateValue.{StateValue}
use Rattle.chat_history.specs.History.{norm, changes_of}
use Rattle.chat_buffers.specs.Store.{Store, history_in, numbers_in}

-- what a state with these pieces is seen as
abbrev pub value_of : Store → ℕ → StateValue
value_of s front = record { history = history_in s; numbers = numbers_in s; front = front }

-- the numbers are above 0 and at most the front, and no two keys have one number
pub record AreNumbers (numbers : finite.FinMap key_cmp ℕ) (front : ℕ) : Type 0 where
  pub positive : (k : Key) (n : ℕ) → finite.get numbers k ≡ Some n → 0 < n
  pub reached : (k : Key) (n : ℕ) → finite.get numbers k ≡ Some n → n ≤ front
  pub distinct : (k l : Key) (n : ℕ) →
      finite.get numbers k ≡ Some n → finite.get numbers l ≡ Some n → k ≡ l

-- the pieces are a history in normal form, and their numbers are distinct and at most the front
pub record IsSound (s : Store) (front : ℕ) : Type 0 where
  pub normal : norm (changes_of (history_in s)) ≡ history_in s
  pub numbers : AreNumbers (numbers_in s) front
