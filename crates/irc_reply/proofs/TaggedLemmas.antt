-- The client-only tags of a line's tag data are those of the tags that are read of it.
use Rattle.std.proofs.Common.{◌≡◌, ℕ, List, Option, None, Some, refl}
use Rattle.std.specs.Option.{option_map}
use Rattle.irc_tags.specs.TagList.{tag_list}
use Rattle.irc_tags.proofs.CallerLemmas.{client_only_text_is}
use Rattle.irc_reply.specs.Tagged.{client_tags, kept_text}

pub kept_text_read : (text : Option (List ℕ)) → kept_text (option_map tag_list text) ≡ client_tags text
kept_text_read None = refl
kept_text_read (Some bytes) = client_only_text_is bytes
