-- The numbers of pieces: how far a list of changes had come when each piece got its present form,
-- and what is newer than a number.
use Rattle.std.specs.Prelude.{ℕ, suc, ◌+◌, max, Bool, not, Option, List, [], ◌∷◌, ◌++◌, length, filter, map, take, nat_lt, if◌then◌else◌}
use Rattle.std.specs.Ordering.{nat_cmp}
use Rattle.std.specs.List.{list_any, filter_map}
use Rattle.std.specs.Option.{option_map, unwrap_or, is_some}
use Rattle.std.specs.FinMap.{FinMap, from_entries, entries, get, keys, insert, retain_keys}
use Rattle.chat_change.specs.declared.change.Change.{Change}
use Rattle.chat_history.specs.Choice.{greatest}
use Rattle.chat_change.specs.Key.{Key, key_cmp, same_key, key_of}
use Rattle.chat_history.specs.History.{History, norm}
use Rattle.chat_history.specs.Same.{same_history}

-- whether a change would change the normal form
abbrev pub counts_after : List Change → Change → Bool
counts_after changes c = not (same_history (norm (changes ++ c ∷ [])) (norm changes))

-- of the changes that come after others, those that count
abbrev pub changes_that_count : List Change → List Change → List Change
changes_that_count before [] = []
changes_that_count before (c ∷ cs) =
    if counts_after before c then c ∷ changes_that_count (before ++ c ∷ []) cs
    else changes_that_count (before ++ c ∷ []) cs

-- the number after a list of changes, where it was `start` before them
abbrev pub front : ℕ → List Change → ℕ
front start changes = start + length (changes_that_count [] changes)

-- how many changes there are up to the last that bears a key; 0 where none does
abbrev pub up_to_last : Key → List Change → ℕ
up_to_last k [] = 0
up_to_last k (c ∷ cs) =
    if list_any (λ d. same_key k (key_of d)) cs then suc (up_to_last k cs)
    else (if same_key k (key_of c) then 1 else 0)

-- the number of a key's piece: the front after the last change that counts and bears the key
abbrev pub number : ℕ → List Change → Key → ℕ
number start changes k = start + up_to_last k (changes_that_count [] changes)

-- the number of each piece
abbrev pub numbers : ℕ → List Change → FinMap key_cmp ℕ
numbers start changes = from_entries (map (λ k. (k, number start changes k)) (keys (norm changes)))

-- whether a history has a piece under a key
abbrev pub has_piece : History → Key → Bool
has_piece history k = is_some (get history k)

-- the numbers after a change that counts: its key gets the next one, and whatever else is still
-- there keeps its own
abbrev pub numbers_after : FinMap key_cmp ℕ → History → Key → ℕ → FinMap key_cmp ℕ
numbers_after numbers history k next = insert (retain_keys numbers (has_piece history)) k next

-- ---- what is newer than a number

-- at most so many changes go into one delta
abbrev pub delta_limit : ℕ
delta_limit = 256

pub record Delta : Type 0 where
  pub from : ℕ
  pub to : ℕ
  pub changes : List Change

-- a change under its number
abbrev pub numbered_entry : FinMap key_cmp ℕ → Key × Change → Option (ℕ × Change)
numbered_entry numbers e = option_map (λ (n : ℕ). (n, e.1)) (get numbers e.0)

-- the pieces with numbers above `from`, by rising number
abbrev pub newer : History → FinMap key_cmp ℕ → ℕ → List (ℕ × Change)
newer history numbers from =
    filter (λ e. nat_lt from e.0)
    (entries (from_entries {R = nat_cmp} (filter_map (numbered_entry numbers) (entries history))))

-- how far whoever takes the first newer pieces since `from` has come
abbrev pub delta_end : ℕ → ℕ → List (ℕ × Change) → ℕ
delta_end from front all =
    if nat_lt delta_limit (length all)
    then unwrap_or (greatest (map (λ (e : ℕ × Change). e.0) (take delta_limit all))) from
    else max from front

-- the delta since `from`, of the pieces that are newer: the first of them, and how far whoever
-- takes them has come
abbrev pub delta_from : ℕ → ℕ → List (ℕ × Change) → Delta
delta_from from front all =
    record {
      from = from;
      to = delta_end from front all;
      changes = map (λ (e : ℕ × Change). e.1) (take delta_limit all);
    }

abbrev pub delta_of : History → FinMap key_cmp ℕ → ℕ → ℕ → Delta
delta_of history numbers front from = delta_from from front (newer history numbers from)

-- of a list of changes
abbrev pub delta : ℕ → List Change → ℕ → Delta
delta start changes from =
    delta_of (norm changes) (numbers start changes) (front start changes) from
