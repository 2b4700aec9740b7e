-- Words of a client that are repeated.
use Rattle.std.specs.Prelude.{ℕ, Bool, not, ◌&&◌, ◌==◌, nat_le, List, codes, length, if◌then◌else◌}
use Rattle.std.specs.List.{list_any}
use Rattle.byte_text.specs.Bytes.{begins_with, colon, space}
use Rattle.irc_reply.specs.Standing.{word_limit}

-- a word that may stand where a parameter stands, and isn't too long to be told again
abbrev pub can_be_echoed : List ℕ → Bool
can_be_echoed word =
    not (length word == 0) && nat_le (length word) word_limit && not (begins_with colon word)
    && not (list_any (λ b. b == space) word)

-- the word as it is repeated: `*` for one that can't be
abbrev pub echoed : List ℕ → List ℕ
echoed word = if can_be_echoed word then word else codes "*"
