-- The tags of a line (IRCv3 message-tags, "Format" and "Rules for naming message tags").
use Rattle.std.specs.Prelude.{ℕ, Bool, not, List, [], ◌∷◌, length, Option, None, Some, map, filter, nat_eq, ◌==◌, if◌then◌else◌}
use Rattle.std.specs.Cmp.Lexicographic.{pointwise}
use Rattle.std.specs.List.{slice_split, before_first, after_first}
use Rattle.irc_tags.specs.Value.{semicolon, value_in}

-- a key and its value
abbrev pub Tag : Type 0
Tag = List ℕ × List ℕ

-- the greatest length of tag data in bytes ("Size limit")
abbrev pub max_tag_data : ℕ
max_tag_data = 8189

abbrev pub equals_sign : ℕ
equals_sign = 61

abbrev pub is_semicolon : ℕ → Bool
is_semicolon b = b == semicolon

abbrev pub is_equals : ℕ → Bool
is_equals b = b == equals_sign

-- the key and the value of a tag, cut at the first `=`. A missing value is the empty one.
abbrev pub tag_of : List ℕ → Tag
tag_of bytes = (before_first is_equals bytes, value_in (after_first is_equals bytes))

abbrev pub has_key : Tag → Bool
has_key tag = not (length tag.0 == 0)

-- the tags of tag data in their order, without those whose key is empty
abbrev pub tags_of : List ℕ → List Tag
tags_of bytes = filter has_key (map tag_of (slice_split is_semicolon bytes))

abbrev pub same_bytes : List ℕ → List ℕ → Bool
same_bytes = pointwise nat_eq

-- each of the keys once, in the order of their first places
abbrev pub distinct_keys : List (List ℕ) → List (List ℕ)
distinct_keys [] = []
distinct_keys (key ∷ keys) = key ∷ filter (λ other. not (same_bytes key other)) (distinct_keys keys)

-- the last value of a key in the tags, or that value where they lack it
abbrev pub last_value : List ℕ → List ℕ → List Tag → List ℕ
last_value key value [] = value
last_value key value (tag ∷ tags) =
    last_value key (if same_bytes key tag.0 then tag.1 else value) tags

-- of equal keys the last value counts, and the key keeps its first place
unfoldable pub tags_by_key : List Tag → List Tag
tags_by_key tags =
    map (λ key. (key, last_value key [] tags)) (distinct_keys (map (λ tag. tag.0) tags))

-- what tag data says
unfoldable pub tag_list : List ℕ → List Tag
tag_list bytes = tags_by_key (tags_of bytes)

-- the value of a key
abbrev pub value_at : List ℕ → List Tag → Option (List ℕ)
value_at key [] = None
value_at key (tag ∷ tags) = if same_bytes key tag.0 then Some tag.1 else value_at key tags
