-- Words of a line, and how long a text may be.
use Rattle.std.specs.Prelude.{ℕ, Bool, ◌&&◌, ◌||◌, ◌==◌, nat_lt, nat_le, List, length}
use Rattle.byte_text.specs.Bytes.{ends_line, space}

-- the text has at least one byte and at most so many
abbrev pub has_length_to : ℕ → List ℕ → Bool
has_length_to most text = nat_lt 0 (length text) && nat_le (length text) most

-- what stands in no line, and a space, stand in no word
abbrev pub ends_word : ℕ → Bool
ends_word b = ends_line b || (b == space)
