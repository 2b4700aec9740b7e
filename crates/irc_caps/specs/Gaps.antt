-- The steps of the loops over words.
use Rattle.std.specs.Prelude.{ℕ, zero, suc, List, [], ◌∷◌}

-- the space before a word of a list
abbrev pub gap_before : ℕ → List ℕ
gap_before zero = []
gap_before (suc n) = 32 ∷ []
