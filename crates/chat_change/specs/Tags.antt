-- What the tags of a record spell (IRCv3 message-tags, "Format" and "Client-only tags").
use Rattle.std.specs.Prelude.{ℕ, ◌≡◌, true, List}
use Rattle.std.specs.List.{All}
use Rattle.irc_tags.specs.TagList.{Tag}
use Rattle.irc_tags.specs.Text.{tags_text}
use Rattle.irc_tags.specs.Standing.{CanStand, is_client_only}

-- the text is what is written of these tags, which are client-only and have distinct keys
pub record Spells (text : List ℕ) (tags : List Tag) : Type 0 where
  pub written : text ≡ tags_text tags
  pub stand : CanStand tags
  pub client_only : All (λ tag. is_client_only tag.0 ≡ true) tags
