-- Spots, and cuts between the records of a buffer.
use Rattle.std.specs.Prelude.{Bool, true, false, not, Some, List, filter, nat_lt, nat_le}
use Rattle.std.specs.declared.cmp.Ordering.{Ordering}
use Rattle.std.specs.Ordering.{nat_cmp, on, then_cmp, flip_args, is_lt, is_le}
use Rattle.std.specs.Option.{option_cmp}
use Rattle.std.specs.Cmp.{IsTotalOrder, back_total, then_total, on_total, nat_cmp_total}
use Rattle.std.specs.Cmp.Lexicographic.{lists_total, options_total}
use Rattle.chat_change.specs.Record.{Record}
use Rattle.byte_text.specs.Order.{text_cmp}
use Rattle.chat_history.specs.declared.cut.Spot.{Spot}
use Rattle.chat_history.specs.declared.cut.Cut.{Cut}
use Rattle.chat_history.specs.declared.cut.Cut.TheVariants.{Bottom, UnderTime, OverTime, UnderMsg, OverMsg, Top}

-- by moment, and at equal moments by id. No id stands before all ids
abbrev pub cut_cmp : Spot → Spot → Ordering
cut_cmp = then_cmp (on (λ (s : Spot). s.at) nat_cmp) (on (λ (s : Spot). s.id) (option_cmp text_cmp))

pub cut_total : IsTotalOrder cut_cmp
cut_total =
    then_total (on_total (λ (s : Spot). s.at) nat_cmp_total)
    (on_total (λ (s : Spot). s.id) (options_total (lists_total nat_cmp_total)))

-- spots as keys of a map, the latest first
abbrev pub latest_first : Spot → Spot → Ordering
latest_first = flip_args cut_cmp

pub latest_first_total : IsTotalOrder latest_first
latest_first_total = back_total cut_total

-- where a record stands
abbrev pub of_record : Record → Spot
of_record r = record { at = r.at; id = Some r.id }

-- whether a record stands after a cut
abbrev pub is_after : Cut → Record → Bool
is_after Bottom r = true
is_after (UnderTime t) r = nat_le t r.at
is_after (OverTime t) r = nat_lt t r.at
is_after (UnderMsg s) r = is_le (cut_cmp s.now (of_record r))
is_after (OverMsg s) r = is_lt (cut_cmp s.now (of_record r))
is_after Top r = false

-- the records after a cut, in their order
abbrev pub after : Cut → List Record → List Record
after cut records = filter (is_after cut) records

-- the records before a cut, in their order
abbrev pub before : Cut → List Record → List Record
before cut records = filter (λ r. not (is_after cut r)) records
