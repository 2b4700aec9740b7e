-- A list of tags that is made tag by tag, and the entries of the map that holds it.
use Rattle.std.specs.Prelude.{◌≡◌, ℕ, ◌&&◌, List, [], ◌∷◌, Option, Some, map, if◌then◌else◌}
use Rattle.std.specs.Borrow.{Bor}
use Rattle.std.specs.Cow.{cow_slice_items}
use Rattle.std.specs.declared.alloc.Global.{Global}
use Rattle.std.specs.declared.borrow.CowSlice.{CowSlice}
use Rattle.irc_tags.specs.TagList.{Tag, has_key, same_bytes, tag_of}

-- the tags with a value for a key, which keeps its place where it is there, and goes last where it is new
abbrev pub with_value : List Tag → List ℕ → List ℕ → List Tag
with_value [] key value = (key, value) ∷ []
with_value (tag ∷ tags) key value =
    if same_bytes key tag.0 then (tag.0, value) ∷ tags else tag ∷ with_value tags key value

-- the tags with one more, unless its key is empty
abbrev pub with_tag : List Tag → Tag → List Tag
with_tag tags tag = if has_key tag then with_value tags tag.0 tag.1 else tags

-- the tags with more of them, one after another
abbrev pub with_tags : List Tag → List Tag → List Tag
with_tags tags [] = tags
with_tags tags (tag ∷ more) = with_tags (with_tag tags tag) more

-- the value of the tag, where it has that key, or what was found before. No tag has the empty key.
abbrev pub found_in : List ℕ → Option (List ℕ) → Tag → Option (List ℕ)
found_in key found tag = if has_key tag && same_bytes key tag.0 then Some tag.1 else found

-- the last value of a key in the tags, or what was found before
abbrev pub last_found : List ℕ → Option (List ℕ) → List Tag → Option (List ℕ)
last_found key found [] = found
last_found key found (tag ∷ tags) = last_found key (found_in key found tag) tags

-- a key that the line lends, and its value
abbrev pub Held : Type 0
Held = Bor (List ℕ) × CowSlice ℕ Global

-- the bytes of the keys and the values of a map
abbrev pub value_of : List Held → List Tag
value_of entries = map (λ e. (e.0.now, cow_slice_items e.1)) entries

-- the map takes the tag that these bytes spell
abbrev pub PutsTag : List Held → List Held → List ℕ → Type 0
PutsTag old new bytes = value_of new ≡ with_tag (value_of old) (tag_of bytes)
