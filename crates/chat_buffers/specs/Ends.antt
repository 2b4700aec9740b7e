-- Which records lie within an end of a range.
use Rattle.std.specs.Prelude.{Bool, not}
use Rattle.std.specs.BTreeMap.Range.{is_from_start, is_past_end}
use Rattle.std.specs.declared.ops.Bound.{Bound}
use Rattle.chat_change.specs.Record.{Record}
use Rattle.chat_history.specs.Cut.{cut_cmp, of_record}
use Rattle.chat_history.specs.declared.cut.Spot.{Spot}

-- a record stands at the start of a range or after it
abbrev pub is_from : Bound Spot → Record → Bool
is_from start r = is_from_start cut_cmp start (of_record r)

-- a record stands before the end of a range, or at it
abbrev pub is_until : Bound Spot → Record → Bool
is_until end r = not (is_past_end cut_cmp end (of_record r))
