-- What becomes of lines that are handed in for the operator.
use Rattle.std.specs.Prelude.{ℕ, ◌+◌, ◌-◌, ◌^◌, ◌==◌, ◌&&◌, min, nat_le, Bool, List, ◌++◌, length, if◌then◌else◌}
use Rattle.operator_log.specs.declared.log_queue.TheConstants.{ROOM}

-- A line has room where none was lost behind those that wait, and where it fits in behind them.
abbrev pub has_room : List ℕ → ℕ → List ℕ → Bool
has_room lines lost line = (lost == 0) && nat_le (length lines + length line) ROOM

-- the lines that wait then
abbrev pub waiting : List ℕ → ℕ → List ℕ → List ℕ
waiting lines lost line = if has_room lines lost line then lines ++ line else lines

-- one more, or the greatest number of 64 bits
abbrev pub one_more : ℕ → ℕ
one_more lost = min (lost + 1) (2 ^ 64 - 1)

-- how many were lost behind them then
abbrev pub lost_then : List ℕ → ℕ → List ℕ → ℕ
lost_then lines lost line = if has_room lines lost line then lost else one_more lost
