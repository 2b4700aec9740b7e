-- The line of a message and its tags, which stand in one block of memory.
use Rattle.std.specs.Prelude.{ℕ, ◌≡◌, ◌≤◌, ◌+◌, ◌-◌, List, ◌++◌, codes, drop, length, slice_range}
use Rattle.chat_change.specs.Message.{Message, kind_word, sent_line}
use Rattle.chat_change.specs.declared.message.Kind.{Kind}

pub record MessageTexts : Type 0 where
  pub tags : List ℕ
  pub message : Message

-- the command of a kind, between two spaces
abbrev pub spaced_word : Kind → List ℕ
spaced_word kind = codes " " ++ (kind_word kind ++ codes " ")

-- how many bytes stand in front of the body
abbrev pub length_to_body : List ℕ → Message → ℕ
length_to_body tags m =
    length tags + 1 + length m.source + length (spaced_word m.kind) + length m.target + 2

-- the message whose texts stand in the bytes: its line begins at the first place, its command at the second, its target at the
-- third and its body at the last
abbrev pub message_at : List ℕ → ℕ → ℕ → ℕ → ℕ → Kind → Message
message_at bytes line command target body kind = record {
  kind = kind;
  source = slice_range bytes (line + 1) command;
  target = slice_range bytes target (body - 2);
  body = slice_range bytes body (length bytes - 2);
}

-- the line of that message stands there
pub record IsLaidOut (bytes : List ℕ) (line command target body : ℕ) (kind : Kind) : Type 0 where
  pub line_first : line + 1 ≤ command
  pub command_next : command ≤ target
  pub target_next : target + 2 ≤ body
  pub body_last : body + 2 ≤ length bytes
  pub stands : drop line bytes ≡ sent_line (message_at bytes line command target body kind)
