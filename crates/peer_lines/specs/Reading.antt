-- How a line is read: word by word, with one space behind each.
use Rattle.std.specs.Prelude.{ℕ, ◌-◌, ◌^◌, ◌&&◌, List, nat_lt, nat_le, Option, None, Some, if◌then◌else◌}
use Rattle.std.specs.Option.{option_and_then}
use Rattle.byte_text.specs.Number.{number_to}
use Rattle.change_lines.specs.Words.{word, behind}
use Rattle.cluster_directory.specs.Names.{is_node_name, is_shared_word}
use Rattle.cluster_directory.specs.Life.{Life}
use Rattle.peer_lines.specs.Packet.{Hello, Head, Ack}
use Rattle.cluster_directory.specs.Version.{of_number}
use Rattle.peer_lines.specs.declared.packet.TheConstants.{PACKET_LIMIT}
use Rattle.cluster_directory.specs.declared.version.Version.{Version}

-- ---- values

-- the number of which a text is the decimal digits
abbrev pub number_of : List ℕ → Option ℕ
number_of text = number_to (2 ^ 64 - 1) text

-- the version of which a text is the number
abbrev pub version_of : List ℕ → Option Version
version_of text = option_and_then of_number (number_of text)

-- a life by its name and its incarnation
abbrev pub life_of : List ℕ → Option ℕ → Option Life
life_of node None = None
life_of node (Some incarnation) =
    if is_node_name node then Some (record { node = node; incarnation = incarnation }) else None

-- the life that the first two words spell
abbrev pub life_at : List ℕ → Option Life
life_at bytes = life_of (word bytes) (number_of (word (behind bytes)))

abbrev pub behind_life : List ℕ → List ℕ
behind_life bytes = behind (behind bytes)

-- the numbers of a head
pub record Span : Type 0 where
  pub from : ℕ
  pub to : ℕ
  pub count : ℕ

abbrev pub span_of : Option ℕ → Option ℕ → Option ℕ → Option Span
span_of (Some from) (Some to) (Some count) =
    if nat_lt from to && nat_lt 0 count && nat_le count PACKET_LIMIT
    then Some (record { from = from; to = to; count = count })
    else None
span_of _ _ _ = None

-- the numbers that three words spell
abbrev pub span_at : List ℕ → Option Span
span_at bytes =
    span_of (number_of (word bytes)) (number_of (word (behind bytes)))
    (number_of (behind (behind bytes)))

-- ---- what stands behind the first word of a line

abbrev pub word_at : List ℕ → Option (List ℕ)
word_at bytes = if is_shared_word bytes then Some bytes else None

abbrev pub hello_with : Option Version → Option Life → Option Hello
hello_with (Some version) (Some life) = Some (record { life = life; version = version })
hello_with _ _ = None

abbrev pub hello_at : List ℕ → Option Hello
hello_at bytes =
    hello_with (version_of (word bytes))
    (life_of (word (behind bytes)) (number_of (behind (behind bytes))))

abbrev pub head_with : Option Life → Option Life → Option Span → Option Head
head_with (Some sender) (Some receiver) (Some span) =
    Some (record {
      sender = sender;
      receiver = receiver;
      from = span.from;
      to = span.to;
      count = span.count;
    })
head_with _ _ _ = None

abbrev pub head_at : List ℕ → Option Head
head_at bytes =
    head_with (life_at bytes) (life_at (behind_life bytes))
    (span_at (behind_life (behind_life bytes)))

abbrev pub ack_with : Option Life → Option Life → Option ℕ → Option Ack
ack_with (Some sender) (Some receiver) (Some upto) =
    Some (record { sender = sender; receiver = receiver; upto = upto })
ack_with _ _ _ = None

abbrev pub ack_at : List ℕ → Option Ack
ack_at bytes =
    ack_with (life_at bytes) (life_at (behind_life bytes))
    (number_of (behind_life (behind_life bytes)))
