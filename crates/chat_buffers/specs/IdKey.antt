-- Message ids as keys of a map: the prefix of an id.
use Rattle.std.specs.Prelude.{ℕ, ◌+◌, ◌-◌, ◌*◌, ◌^◌, zero, suc, List, [], ◌∷◌, min}

-- the first k bytes of a text as a number, the first counting most, with zeros where it is shorter. It is at most the greatest
-- number of k bytes
abbrev pub leading : ℕ → List ℕ → ℕ
leading zero text = 0
leading (suc k) [] = 0
leading (suc k) (b ∷ text) = min (b * 256 ^ k + leading k text) (256 ^ suc k - 1)

-- as the greatest id comes first, the prefix is the less the greater the first eight bytes are
abbrev pub id_prefix : List ℕ → ℕ
id_prefix id = 2 ^ 64 - 1 - leading 8 id
