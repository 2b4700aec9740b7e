-- Passes: what they have put, seen and been told of.
use Rattle.std.specs.Prelude.{◌≡◌, ◌⊎◌, ◌<◌, ℕ, zero, suc, List, [], ◌∷◌, ◌++◌}
use mathlib.Core.List.{IsPrefix}
use Rattle.shared_node.specs.declared.entry.LogEntry.{LogEntry}

-- a pass: its number, how many changes it put, the list that it has seen, and the longest list that
-- it was told of
pub record PassValue : Type 0 where
  pub number : ℕ
  pub count : ℕ
  pub list : List LogEntry
  pub told : List LogEntry

abbrev pub pass_value : ℕ → ℕ → List LogEntry → List LogEntry → PassValue
pass_value number count list told =
    record { number = number; count = count; list = list; told = told }

-- its number and its count are the same
abbrev pub IsSamePut : PassValue → PassValue → Type 0
IsSamePut old new = (new.number ≡ old.number) × (new.count ≡ old.count)

-- a list follows all that a pass has seen or was told of
abbrev pub FollowsAll : PassValue → List LogEntry → Type 0
FollowsAll pass list = IsPrefix pass.list list × IsPrefix pass.told list

-- a read: the pass has seen a list that follows all that it had seen or was told of, and nothing
-- else changed
abbrev pub Reads : PassValue → PassValue → Type 0
Reads old new = FollowsAll old new.list × (new.told ≡ old.told) × IsSamePut old new

-- a node has 1 to 64 passes
abbrev pub most_passes : ℕ
most_passes = 64

abbrev pub IsBadCount : ℕ → Type 0
IsBadCount passes = (passes ≡ 0) ⊎ (most_passes < passes)

-- n passes at the start, numbered from 0 on: they have put and seen nothing
abbrev pub newcomers : ℕ → List PassValue
newcomers zero = []
newcomers (suc n) = newcomers n ++ pass_value n 0 [] [] ∷ []
