-- How far a guess is from a secret.
use Rattle.std.specs.Prelude.{ℕ, ◌+◌, ◌==◌, Bool, not, List, length}
use Rattle.std.specs.List.{count_by, zip}
use Rattle.std.specs.Int.{abs_diff}

-- two bytes that stand in one place are different ones
abbrev pub differs : ℕ × ℕ → Bool
differs place = not (place.0 == place.1)

-- in how many places two texts differ: where both have a byte, and another one, and where only the longer one has a byte
abbrev pub differing : List ℕ → List ℕ → ℕ
differing secret given =
    count_by differs (zip secret given) + abs_diff (length secret) (length given)
