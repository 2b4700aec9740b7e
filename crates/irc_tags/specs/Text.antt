-- How tags are written (IRCv3 message-tags, "Format").
use Rattle.std.specs.Prelude.{ℕ, zero, suc, List, [], ◌∷◌, ◌++◌, map}
use Rattle.std.specs.List.{join_with_byte}
use Rattle.irc_tags.specs.Value.{semicolon, value_text}
use Rattle.irc_tags.specs.TagList.{Tag, equals_sign}

-- what stands behind a key: `=` and the value, or nothing where the value is empty
abbrev pub value_part : List ℕ → List ℕ
value_part [] = []
value_part (b ∷ value) = equals_sign ∷ value_text (b ∷ value)

-- a tag as it is written
abbrev pub tag_text : Tag → List ℕ
tag_text tag = tag.0 ++ value_part tag.1

-- what stands before the tag at an index
abbrev pub separator : ℕ → List ℕ
separator zero = []
separator (suc index) = semicolon ∷ []

-- the tags, joined by `;`
abbrev pub tags_text : List Tag → List ℕ
tags_text tags = join_with_byte semicolon (map tag_text tags)
