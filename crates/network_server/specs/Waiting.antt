-- When a network's server is dialed.
use Rattle.std.specs.Prelude.{ℕ, ◌≤◌, Option, None, Some}

-- that moment has come
abbrev pub IsDue : Option ℕ → ℕ → Type 0
IsDue None now = ⊥
IsDue (Some at) now = at ≤ now
