-- What a client reads of the tags of a record's line (IRCv3 message-tags): keys with their values.
use Rattle.std.specs.Prelude.{◌≡◌, ℕ, Bool, true, List, [], ◌∷◌, ◌++◌, codes, if◌then◌else◌}
use Rattle.std.specs.List.{All}
use Rattle.irc_caps.specs.declared.CapSet.{CapSet}
use Rattle.irc_line.specs.Line.{HasNoSpace}
use Rattle.irc_tags.specs.TagList.{Tag, tag_list}
use Rattle.irc_tags.specs.Text.{tags_text}
use Rattle.irc_tags.specs.Standing.{CanStand, is_client_only}
use Rattle.irc_time.specs.Text.{time_text}
use Rattle.chat_change.specs.Record.{Record}

-- the record's tags are how these are written, which are client-only tags of distinct keys
pub record HasOwn (r : Record) (own : List Tag) : Type 0 where
  pub stand : CanStand own
  pub client_only : All (λ tag. is_client_only tag.0 ≡ true) own
  pub written : r.tags ≡ tags_text own

abbrev pub tag_if : Bool → List ℕ → List ℕ → List Tag
tag_if flag key value = if flag then (key, value) ∷ [] else []

-- what a session hears of a message: its id, its moment, and then the record's own tags
abbrev pub told_of : CapSet → Record → List Tag → List Tag
told_of caps r own =
    tag_if caps.message_tags (codes "msgid") r.id
    ++ (tag_if caps.server_time (codes "time") (time_text r.at)
    ++ (if caps.message_tags then own else []))

-- and in a batch first the reference
abbrev pub told_in_batch : CapSet → List ℕ → Record → List Tag → List Tag
told_in_batch caps reference r own =
    tag_if caps.batch (codes "batch") reference ++ told_of caps r own

-- The text is `@`, bytes up to the first space, that space and the line, and the bytes are read as these tags. Where there
-- are none the text is the line alone.
abbrev pub TellsTags : List ℕ → List ℕ → List Tag → Type 0
TellsTags text line [] = text ≡ line
TellsTags text line (tag ∷ tags) =
    (bytes : List ℕ) × HasNoSpace bytes × (text ≡ codes "@" ++ (bytes ++ (codes " " ++ line)))
    × (tag_list bytes ≡ tag ∷ tags)
