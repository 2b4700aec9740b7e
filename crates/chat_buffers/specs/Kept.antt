-- The kept records of a buffer.
use Rattle.std.specs.Prelude.{ℕ, ◌≡◌, ◌≤◌, ◌↔◌, Bool, true, false, Option, Some, None, List}
use Rattle.std.specs.declared.cmp.Ordering.{Ordering}
use Rattle.std.specs.Ordering.{is_gt}
use Rattle.std.specs.List.Sorted.{IsStrictlySortedBy}
use Rattle.std.specs.FinMap as finite
use Rattle.chat_change.specs.Record.{Record}
use Rattle.chat_history.specs.Choice.{Among}
use Rattle.chat_history.specs.Visible.{by_spot}
use Rattle.chat_buffers.specs.Messages.{Messages, kept_in}

-- a record is the one that is kept of its message
abbrev pub IsKept : Messages → Record → Type 0
IsKept messages r = kept_in (finite.get messages r.id) ≡ Some r

-- it is the first of the kept records, by (moment, id), or none where none is kept
abbrev pub IsFirstKept : Messages → Option Record → Type 0
IsFirstKept messages None = (r : Record) → IsKept messages r → ⊥
IsFirstKept messages (Some r) =
    IsKept messages r × ((q : Record) → IsKept messages q → is_gt (by_spot r q) ≡ false)

-- it is the moment of the last of the kept records, or none where none is kept
abbrev pub IsLatestKept : Messages → Option ℕ → Type 0
IsLatestKept messages None = (r : Record) → IsKept messages r → ⊥
IsLatestKept messages (Some t) =
    (r : Record) × IsKept messages r × (r.at ≡ t) × ((q : Record) → IsKept messages q → q.at ≤ t)

-- the list has the kept records that pass, each once, in that order
pub record AreKept (R : Record → Record → Ordering) (p : Record → Bool) (messages : Messages)
    (records : List Record) : Type 0 where
  pub sorted : IsStrictlySortedBy R records
  pub all : (r : Record) → Among r records ↔ (IsKept messages r × (p r ≡ true))
