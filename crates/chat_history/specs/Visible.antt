-- The visible records of a buffer, in the order of their moments.
use Rattle.std.specs.Prelude.{ℕ, Option, Some, None, List, map, if◌then◌else◌}
use Rattle.std.specs.declared.cmp.Ordering.{Ordering}
use Rattle.std.specs.Ordering.{nat_cmp, on, eq_by_cmp, ordering_then}
use Rattle.std.specs.List.{filter_map}
use Rattle.std.specs.FinMap.{from_entries, values}
use Rattle.chat_change.specs.Buffer.{Buffer}
use Rattle.chat_change.specs.Record.{Record}
use Rattle.byte_text.specs.Order.{text_cmp}
use Rattle.chat_change.specs.Order.{buffer_cmp}
use Rattle.chat_change.specs.declared.change.Change.{Change}
use Rattle.chat_change.specs.declared.change.Change.TheVariants.{Post}
use Rattle.chat_history.specs.History.{History, changes_of, norm}

-- by moment, and at equal moments by id
abbrev pub spot_cmp : ℕ × List ℕ → ℕ × List ℕ → Ordering
spot_cmp s t = ordering_then (nat_cmp s.0 t.0) (text_cmp s.1 t.1)

-- where a record stands
abbrev pub spot_of : Record → ℕ × List ℕ
spot_of r = (r.at, r.id)

-- records by where they stand
abbrev pub by_spot : Record → Record → Ordering
by_spot = on spot_of spot_cmp

-- the record that a change posts in a buffer
abbrev pub posted_in : Buffer → Change → Option Record
posted_in b (Post r) = if eq_by_cmp buffer_cmp b r.buffer then Some r else None
posted_in b c = None

-- records of different ids, sorted by (moment, id)
abbrev pub in_order : List Record → List Record
in_order records =
    values (from_entries {R = spot_cmp} (map (λ (r : Record). (spot_of r, r)) records))

-- the posts of a history in a buffer, sorted by (moment, id)
abbrev pub records_in : History → Buffer → List Record
records_in history b = in_order (filter_map (posted_in b) (changes_of history))

-- the visible records of a buffer: the kept ones that weren't redacted, sorted by (moment, id)
abbrev pub visible : List Change → Buffer → List Record
visible changes b = records_in (norm changes) b
