-- The line of a record (RFC 2812, sections 2.3, 3.3.1 and 3.3.2), with its tags.
use Rattle.std.specs.Prelude.{ℕ, List, [], ◌∷◌, ◌++◌, None, Some}
use Rattle.irc_caps.specs.declared.CapSet.{CapSet}
use Rattle.irc_line.specs.Text.{line_text}
use Rattle.chat_change.specs.Record.{Record}
use Rattle.chat_change.specs.Message.{kind_word}
use Rattle.chat_query.specs.Tags.{tag_part, batch_tags, message_tags}

-- the message as it was sent
abbrev pub message_line : Record → List ℕ
message_line r = line_text (record {
  tags = None;
  source = Some r.message.source;
  command = kind_word r.message.kind;
  middles = r.message.target ∷ [];
  trailing = Some r.message.body;
})

-- a record in a batch under that reference
abbrev pub record_text : CapSet → List ℕ → Record → List ℕ
record_text caps reference r =
    tag_part (batch_tags caps reference ++ message_tags caps r) ++ message_line r

-- a record that is sent as it comes
abbrev pub live_text : CapSet → Record → List ℕ
live_text caps r = tag_part (message_tags caps r) ++ message_line r
