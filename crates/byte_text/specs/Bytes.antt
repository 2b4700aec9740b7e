-- Bytes that several grammars name, and the byte that a text begins with.
use Rattle.std.specs.Prelude.{ℕ, ◌==◌, ◌||◌, Bool, false, List, [], ◌∷◌}

abbrev pub space : ℕ
space = 32

abbrev pub colon : ℕ
colon = 58

abbrev pub lf : ℕ
lf = 10

abbrev pub cr : ℕ
cr = 13

-- CR LF, which ends a line
abbrev pub line_ending : List ℕ
line_ending = cr ∷ lf ∷ []

-- NUL, LF and CR stand in no line (RFC 1459 and RFC 2812, section 2.3.1)
abbrev pub ends_line : ℕ → Bool
ends_line b = (b == 0) || (b == lf) || (b == cr)

abbrev pub begins_with : ℕ → List ℕ → Bool
begins_with byte [] = false
begins_with byte (b ∷ bytes) = b == byte
