-- How a tag's value is written (IRCv3 message-tags, "Escaping values").
use Rattle.std.specs.Prelude.{◌≡◌, ℕ, false, List, [], ◌∷◌, ◌==◌, if◌then◌else◌}
use Rattle.std.specs.List.{All, flat_map}
use Rattle.byte_text.specs.Bytes.{colon, cr, lf, space}

-- ---- bytes

abbrev pub semicolon : ℕ
semicolon = 59

abbrev pub backslash : ℕ
backslash = 92

abbrev pub letter_s : ℕ
letter_s = 115

abbrev pub letter_r : ℕ
letter_r = 114

abbrev pub letter_n : ℕ
letter_n = 110

-- ---- values

-- what a byte behind a backslash stands for: a few letters for others, and each other byte for itself
abbrev pub escaped_byte : ℕ → ℕ
escaped_byte b =
    if b == colon then semicolon
    else if b == letter_s then space
    else if b == letter_r then cr
    else if b == letter_n then lf
    else b

-- The value that the bytes spell: a backslash and the byte behind it stand for one byte, a backslash at the end for
-- none, and any other byte for itself.
unfoldable pub value_in : List ℕ → List ℕ
value_in [] = []
value_in (b ∷ []) = if b == backslash then [] else b ∷ []
value_in (b ∷ next ∷ bytes) =
    if b == backslash then escaped_byte next ∷ value_in bytes else b ∷ value_in (next ∷ bytes)

-- no byte is a backslash. Such bytes are the value that they spell.
abbrev pub IsPlain : List ℕ → Type 0
IsPlain bytes = All (λ b. (b == backslash) ≡ false) bytes

-- how a byte of a value is written
abbrev pub byte_spelling : ℕ → List ℕ
byte_spelling b =
    if b == semicolon then backslash ∷ colon ∷ []
    else if b == space then backslash ∷ letter_s ∷ []
    else if b == backslash then backslash ∷ backslash ∷ []
    else if b == cr then backslash ∷ letter_r ∷ []
    else if b == lf then backslash ∷ letter_n ∷ []
    else b ∷ []

-- how a value is written
abbrev pub value_text : List ℕ → List ℕ
value_text value = flat_map byte_spelling value
