-- The one spelling of each line that nodes send each other: words with one space between them, and CR LF behind a line
-- that is written. Numbers are decimal digits without leading zeros.
--   W <word>                                                  the word that the nodes share
--   H <version> <node> <inc>                                  a hello: a version, 1 to 3, and a life
--   D <node> <inc> <node> <inc> <from> <to> <count>           the head of a packet, from one life to another
--   A <node> <inc> <node> <inc> <upto>                        an acknowledgement, from one life to another
--   C ..                                                      a change, as its own crate spells it
use Rattle.std.specs.Prelude.{ℕ, ◌≡◌, ◌<◌, ◌≤◌, ◌^◌, true, List, [], ◌∷◌, ◌++◌, codes, map}
use Rattle.std.specs.Fmt.{decimal}
use Rattle.std.specs.List.{All, flat_map, join_with_byte}
use Rattle.byte_text.specs.Bytes.{line_ending}
use Rattle.change_lines.specs.ChangeText.{line_of as change_text}
use Rattle.chat_change.specs.Lawful.{IsLawfulChange}
use Rattle.cluster_directory.specs.Life.{Life, IsLife}
use Rattle.cluster_directory.specs.Names.{is_shared_word}
use Rattle.cluster_directory.specs.Version.{number}
use Rattle.peer_lines.specs.Packet as parts
use Rattle.peer_lines.specs.Packet.{Packet, head_of}
use Rattle.peer_lines.specs.declared.packet.TheConstants.{PACKET_LIMIT}
use Rattle.peer_lines.specs.declared.peer_line.PeerLine.{PeerLine}
use Rattle.peer_lines.specs.declared.peer_line.PeerLine.TheVariants.{Word, Hello, Head, Change, Ack}

-- the words, with one space between them
abbrev pub spaced : List (List ℕ) → List ℕ
spaced = join_with_byte 32

-- the two words of a life, before others
abbrev pub life_words : Life → List (List ℕ) → List (List ℕ)
life_words l more = l.node ∷ decimal l.incarnation ∷ more

abbrev pub head_words : parts.Head → List (List ℕ)
head_words h =
    life_words h.sender
    (life_words h.receiver (decimal h.from ∷ decimal h.to ∷ decimal h.count ∷ []))

abbrev pub ack_words : parts.Ack → List (List ℕ)
ack_words a = life_words a.sender (life_words a.receiver (decimal a.upto ∷ []))

-- the spelling of a line, without its ending
abbrev pub text_of : PeerLine → List ℕ
text_of (Word word) = spaced (codes "W" ∷ word ∷ [])
text_of (Hello life version) =
    spaced (codes "H" ∷ decimal (number version) ∷ life_words life [])
text_of (Head head) = spaced (codes "D" ∷ head_words head)
text_of (Change c) = change_text c
text_of (Ack ack) = spaced (codes "A" ∷ ack_words ack)

-- ---- which lines there are: those of which each part is lawful

pub record IsHead (h : parts.Head) : Type 0 where
  pub sender : IsLife h.sender
  pub receiver : IsLife h.receiver
  pub rising : h.from < h.to
  pub number : h.to < 2 ^ 64
  pub some : 0 < h.count
  pub within : h.count ≤ PACKET_LIMIT

pub record IsAck (a : parts.Ack) : Type 0 where
  pub sender : IsLife a.sender
  pub receiver : IsLife a.receiver
  pub number : a.upto < 2 ^ 64

abbrev pub IsPeerLine : PeerLine → Type 0
IsPeerLine (Word word) = is_shared_word word ≡ true
IsPeerLine (Hello life version) = IsLife life
IsPeerLine (Head head) = IsHead head
IsPeerLine (Change c) = IsLawfulChange c
IsPeerLine (Ack ack) = IsAck ack

-- these bytes, which stand without their ending, spell that line
pub record Spells (bytes : List ℕ) (line : PeerLine) : Type 0 where
  pub lawful : IsPeerLine line
  pub text : text_of line ≡ bytes

-- ---- what is written

-- a line as it is written
abbrev pub written : PeerLine → List ℕ
written line = text_of line ++ line_ending

-- the lines of a packet: its head, and then its changes
abbrev pub lines_of : Packet → List PeerLine
lines_of p = Head (head_of p) ∷ map (λ c. Change c) p.changes

abbrev pub packet_text : Packet → List ℕ
packet_text p = flat_map written (lines_of p)

-- a packet that may be written: 1 to 256 lawful changes under a lawful head
pub record IsPacket (p : Packet) : Type 0 where
  pub head : IsHead (head_of p)
  pub changes : All IsLawfulChange p.changes
