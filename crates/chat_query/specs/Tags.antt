-- The tags of the lines that are written (IRCv3 message-tags, "Format").
use Rattle.std.specs.Prelude.{ℕ, Bool, not, ◌&&◌, ◌||◌, ◌==◌, List, [], ◌∷◌, ◌++◌, length, codes, if◌then◌else◌}
use Rattle.byte_text.specs.Bytes.{cr, lf, space}
use Rattle.irc_caps.specs.Words.{only_if}
use Rattle.irc_caps.specs.declared.CapSet.{CapSet}
use Rattle.irc_tags.specs.Value.{semicolon, backslash, value_text}
use Rattle.irc_time.specs.Text.{time_text}
use Rattle.chat_change.specs.Record.{Record}
use Rattle.chat_query.specs.declared.tags.Tag.{Tag}
use Rattle.chat_query.specs.declared.tags.Tag.TheVariants as tag

-- tags as they stand before a line: `@`, the tags with `;` between them, and a space. No tags are nothing.
abbrev pub more_tags : List (List ℕ) → List ℕ
more_tags [] = codes " "
more_tags (tag ∷ tags) = codes ";" ++ (tag ++ more_tags tags)

abbrev pub tag_part : List (List ℕ) → List ℕ
tag_part [] = []
tag_part (tag ∷ tags) = codes "@" ++ (tag ++ more_tags tags)

-- the tag of a line in a batch (IRCv3 batch)
abbrev pub batch_tags : CapSet → List ℕ → List (List ℕ)
batch_tags caps reference = only_if caps.batch (codes "batch=" ++ reference)

-- whether a record's own tags are written: a session with `message-tags` gets those of a record that has some
abbrev pub has_own_tags : CapSet → Record → Bool
has_own_tags caps r = caps.message_tags && not (length r.tags == 0)

-- the record's own tags (IRCv3 message-tags, "Client-only tags"), which stand as they are in the record
abbrev pub own_tags : CapSet → Record → List (List ℕ)
own_tags caps r = only_if (has_own_tags caps r) r.tags

-- the tags of a message: its id (IRCv3 message-ids), its moment (IRCv3 server-time), and its own
abbrev pub message_tags : CapSet → Record → List (List ℕ)
message_tags caps r =
    only_if caps.message_tags (codes "msgid=" ++ value_text r.id)
    ++ (only_if caps.server_time (codes "time=" ++ time_text r.at) ++ own_tags caps r)

-- ---- one tag after another

-- what stands before a tag
abbrev pub separator : Bool → List ℕ
separator begun = if begun then codes ";" else codes "@"

-- the key of a tag, with its `=`
abbrev pub key_text : Tag → List ℕ
key_text tag.Batch = codes "batch="
key_text tag.MsgId = codes "msgid="
key_text tag.Time = codes "time="

-- the next tag, if there is one: `begun` says that a tag stands before it
abbrev pub next_tag : Bool → Bool → List ℕ → List ℕ
next_tag begun flag tag = if flag then separator begun ++ tag else []

-- ---- values without escapes

-- whether a byte of a value is written as it is
abbrev pub is_plain_byte : ℕ → Bool
is_plain_byte b =
    not ((b == semicolon) || (b == space) || (b == backslash) || (b == cr) || (b == lf))
