-- The words of a list of capabilities, which asks for some and gives others up (IRCv3 capability negotiation, `CAP REQ`).
use Rattle.std.specs.Prelude.{ℕ, Bool, true, false, not, ◌&&◌, ◌==◌, nat_le, is_some, List, [], ◌∷◌, length, filter, Option, None, Some, option_map, if◌then◌else◌}
use Rattle.std.specs.List.{slice_split, join_with_byte, list_all}
use Rattle.irc_caps.specs.declared.CapSet.{CapSet}
use Rattle.irc_caps.specs.declared.words.Wish.{Wish}
use Rattle.irc_caps.specs.Capability.{capability_of}
use Rattle.irc_caps.specs.CapSet.{with_held}

abbrev pub is_word : List ℕ → Bool
is_word word = not (length word == 0)

-- what spaces cut a text into; an empty part is no word
abbrev pub parts_of : List ℕ → List (List ℕ)
parts_of text = slice_split (λ b. b == 32) text

-- the words of a text, which spaces cut
abbrev pub words_of : List ℕ → List (List ℕ)
words_of text = filter is_word (parts_of text)

-- words with a space between each two
abbrev pub joined : List (List ℕ) → List ℕ
joined words = join_with_byte 32 words

-- the word, where it belongs to a list
abbrev pub only_if : Bool → List ℕ → List (List ℕ)
only_if wanted word = if wanted then word ∷ [] else []

-- the name of a capability asks for it, and `-` and the name give it up
abbrev pub wish_of : List ℕ → Option Wish
wish_of [] = None
wish_of (b ∷ name) =
    if b == 45
    then option_map (λ c. record { capability = c; is_held = false }) (capability_of name)
    else option_map (λ c. record { capability = c; is_held = true }) (capability_of (b ∷ name))

-- the most bytes of a list that is repeated whole
abbrev pub list_limit : ℕ
list_limit = 200

-- each word is the name of a capability or `-` and such a name, and the list isn't too long to be told again
abbrev pub is_acknowledged : List (List ℕ) → Bool
is_acknowledged words =
    nat_le (length (joined words)) list_limit && list_all (λ word. is_some (wish_of word)) words

abbrev pub with_wish : CapSet → Option Wish → CapSet
with_wish caps None = caps
with_wish caps (Some wish) = with_held caps wish.capability wish.is_held

-- each word in turn
abbrev pub with_words : CapSet → List (List ℕ) → CapSet
with_words caps [] = caps
with_words caps (word ∷ words) = with_words (with_wish caps (wish_of word)) words
