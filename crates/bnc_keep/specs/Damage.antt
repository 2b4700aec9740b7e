-- What is told of a file that is damaged.
use Rattle.std.specs.Prelude.{ℕ, ◌==◌, Bool, nat_eq, List, codes}
use Rattle.std.specs.List.{count_by, slice_split, starts_with}

abbrev pub is_lf : ℕ → Bool
is_lf byte = byte == 10

-- how many lines end in these bytes
abbrev pub lines_in : List ℕ → ℕ
lines_in bytes = count_by is_lf bytes

-- the line of a change
abbrev pub is_change : List ℕ → Bool
is_change line = starts_with nat_eq line (codes "C ")

-- how many lines of changes these bytes have, the last of which may be cut short
abbrev pub changes_in : List ℕ → ℕ
changes_in bytes = count_by is_change (slice_split is_lf bytes)
