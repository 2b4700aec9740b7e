-- Client-only tags in front of a line that goes on (IRCv3 message-tags, "Format" and "Client-only tags").
use Rattle.std.specs.Prelude.{ℕ, List, [], ◌∷◌, Option, None, Some}
use Rattle.irc_line.specs.Text.{tags_text}
use Rattle.irc_tags.specs.ClientOnly.{client_only_of, client_only_text}
use Rattle.irc_tags.specs.TagList.{Tag}

-- `@`, the tag data and a space, where there is any
abbrev pub tag_part : List ℕ → List ℕ
tag_part [] = []
tag_part (b ∷ tags) = tags_text (Some (b ∷ tags))

-- the client-only tags of a line's tag data, as they are written
abbrev pub client_tags : Option (List ℕ) → List ℕ
client_tags None = []
client_tags (Some tags) = client_only_text tags

-- the client-only ones of the tags that were read of a line, as they are written
abbrev pub kept_text : Option (List Tag) → List ℕ
kept_text None = []
kept_text (Some tags) = client_only_of tags
