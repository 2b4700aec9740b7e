-- The lines to a server (RFC 2812, section 3; IRCv3 capability negotiation). Each ends with CR LF.
use Rattle.std.specs.Prelude.{ℕ, List, [], ◌∷◌, ◌++◌, codes, take, Option, None, Some}
use Rattle.byte_text.specs.Bytes.{line_ending}
use Rattle.irc_line.specs.Read.{text_in}
use Rattle.irc_tags.specs.TagList.{Tag}
use Rattle.irc_reply.specs.Reply.{plain_line}
use Rattle.irc_reply.specs.Tagged.{tag_part, client_tags, kept_text}

abbrev pub ls_line : List ℕ
ls_line = plain_line (codes "CAP") (codes "LS" ∷ codes "302" ∷ []) None

abbrev pub nick_line : List ℕ → List ℕ
nick_line nick = plain_line (codes "NICK") (nick ∷ []) None

abbrev pub user_line : List ℕ → List ℕ
user_line user = plain_line (codes "USER") (user ∷ codes "0" ∷ codes "*" ∷ []) (Some user)

abbrev pub join_line : List ℕ → List ℕ
join_line channel = plain_line (codes "JOIN") (channel ∷ []) None

abbrev pub pong_line : List ℕ → List ℕ
pong_line word = plain_line (codes "PONG") [] (Some word)

abbrev pub cap_end : List ℕ
cap_end = plain_line (codes "CAP") (codes "END" ∷ []) None

abbrev pub redact_line : List ℕ → List ℕ → Option (List ℕ) → List ℕ
redact_line target id reason = plain_line (codes "REDACT") (target ∷ id ∷ []) reason

-- the nick with so many `_` behind it, three at most
abbrev pub with_underscores : List ℕ → ℕ → List ℕ
with_underscores nick count = nick ++ take count (codes "___")

-- a client's line as it goes to the server: without its tags and its source
abbrev pub passed_line : List ℕ → List ℕ
passed_line bytes = text_in bytes ++ line_ending

-- the same with its client-only tags in front, of the tag data that it has
abbrev pub tagged_line : Option (List ℕ) → List ℕ → List ℕ
tagged_line tags bytes = tag_part (client_tags tags) ++ passed_line bytes

-- the same of tags that were read
abbrev pub line_of_tags : Option (List Tag) → List ℕ → List ℕ
line_of_tags tags bytes = tag_part (kept_text tags) ++ passed_line bytes
