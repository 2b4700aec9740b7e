-- Client-only tags one by one: which of them stand as they are written.
use Rattle.std.specs.Prelude.{ℕ, Bool, List, ◌&&◌}
use Rattle.std.specs.Option.{is_none}
use Rattle.irc_tags.specs.TagList.{same_bytes, tag_of, tag_list, value_at}
use Rattle.irc_tags.specs.Text.{tag_text}
use Rattle.irc_tags.specs.Standing.{is_client_only}

-- a tag that is client-only and stands as it is written
abbrev pub is_client_only_tag : List ℕ → Bool
is_client_only_tag part = is_client_only (tag_of part).0 && same_bytes (tag_text (tag_of part)) part

-- and whose key none of the tags behind it has
abbrev pub is_kept : List ℕ → List ℕ → Bool
is_kept part later = is_client_only_tag part && is_none (value_at (tag_of part).0 (tag_list later))
