-- The client-only tags of tag data (IRCv3 message-tags, "Client-only tags"): those whose key begins with `+`.
use Rattle.std.specs.Prelude.{ℕ, Bool, List, filter}
use Rattle.irc_tags.specs.TagList.{Tag, same_bytes, tag_list}
use Rattle.irc_tags.specs.Text.{tags_text}
use Rattle.irc_tags.specs.Standing.{is_client_only}

-- the client-only ones of tags, as they are written
abbrev pub client_only_of : List Tag → List ℕ
client_only_of tags = tags_text (filter (λ tag. is_client_only tag.0) tags)

-- those of tag data
unfoldable pub client_only_text : List ℕ → List ℕ
client_only_text bytes = client_only_of (tag_list bytes)

-- Tag data that has client-only tags alone and stands as it is written: keeping the client-only tags changes nothing.
-- Empty tag data is such.
unfoldable pub is_client_only_text : List ℕ → Bool
is_client_only_text bytes = same_bytes (client_only_text bytes) bytes
