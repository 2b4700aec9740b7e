-- How the bytes of a short text lie, and the number that the first of them make.
use Rattle.std.specs.Prelude.{ℕ, ◌≡◌, ◌≤◌, ◌<◌, ◌+◌, ◌*◌, ◌^◌, zero, suc, List, [], ◌∷◌, get_or, take}
use Rattle.chat_change.specs.declared.short_text.TheConstants.{WORD}

-- so many bytes are covered by two words, of which the one is the first bytes and the other the last
abbrev pub CanBeRoom : ℕ → Type 0
CanBeRoom n = (WORD ≤ n) × (n ≤ WORD + WORD)

-- from that place on the bytes are zeros
abbrev pub HasZerosFrom : ℕ → List ℕ → Type 0
HasZerosFrom n bytes = (i : ℕ) → n ≤ i → get_or bytes i 0 ≡ 0

-- the first bytes of a text as one number, the first counting most, with zeros where it is shorter
abbrev pub leading : ℕ → List ℕ → ℕ
leading zero text = 0
leading (suc k) [] = 0
leading (suc k) (b ∷ text) = b * 256 ^ k + leading k text

-- each number is a byte
abbrev pub AreBytes : List ℕ → Type 0
AreBytes numbers = (i : ℕ) → get_or numbers i 0 < 256

-- the number that the first bytes of a text make, as many as a word has
abbrev pub IsWordOf : List ℕ → ℕ → Type 0
IsWordOf text n = (n ≡ leading WORD text) × AreBytes (take WORD text)
