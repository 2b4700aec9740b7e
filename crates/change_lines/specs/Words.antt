-- The words of a line, with one space behind each.
use Rattle.std.specs.Prelude.{ℕ, Bool, not, ◌&&◌, ◌==◌, nat_lt, List, [], ◌∷◌, ◌++◌, codes, length, if◌then◌else◌}
use Rattle.std.specs.List.{list_any, flat_map}
use Rattle.std.specs.Ordering.{is_eq}
use Rattle.byte_text.specs.Order.{text_cmp}

-- whether the text is that word, byte for byte
abbrev pub is_text : List ℕ → List ℕ → Bool
is_text text word = is_eq (text_cmp text word)

abbrev pub is_space : ℕ → Bool
is_space b = b == 32

abbrev pub has_space : List ℕ → Bool
has_space text = list_any is_space text

abbrev pub is_filled : List ℕ → Bool
is_filled text = nat_lt 0 (length text)

-- one word, and nothing behind it
abbrev pub is_last_word : List ℕ → Bool
is_last_word text = is_filled text && not (has_space text)

-- up to the first space, or to the end
unfoldable pub word : List ℕ → List ℕ
word [] = []
word (b ∷ bytes) = if is_space b then [] else b ∷ word bytes

-- behind the first space; nothing where there is none
unfoldable pub behind : List ℕ → List ℕ
behind [] = []
behind (b ∷ bytes) = if is_space b then bytes else behind bytes

-- the words, with one space behind each
abbrev pub words_text : List (List ℕ) → List ℕ
words_text words = flat_map (λ w. w ++ codes " ") words
