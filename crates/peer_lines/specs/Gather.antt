-- What comes of the lines of a peer: words, hellos, acknowledgements, and packets, each whole.
use Rattle.std.specs.Prelude.{◌≡◌, ◌⊎◌, ◌==◌, ◌-◌, List, [], ◌∷◌, ◌++◌, length, slice_get, Option, None, Some, Result, Ok, Err, if◌then◌else◌}
use Rattle.std.specs.Option.{option_and_then}
use Rattle.chat_change.specs.Buffer.{Buffer}
use Rattle.chat_change.specs.Extent.{Extent, OfAccount, OfBuffer}
use Rattle.chat_change.specs.Key.{key_of, key_extent}
use Rattle.chat_change.specs.declared.change.Change as change
use Rattle.peer_lines.specs.Packet.{Head, packet_of}
use Rattle.cluster_directory.specs.declared.fault.LinkFault.{LinkFault}
use Rattle.cluster_directory.specs.declared.fault.LinkFault.TheVariants.{BadForm, NoMemory}
use Rattle.peer_lines.specs.declared.peer_line.PeerLine.{PeerLine}
use Rattle.peer_lines.specs.declared.peer_line.PeerLine.TheVariants as line
use Rattle.peer_lines.specs.declared.gather.Arrived.{Arrived}
use Rattle.peer_lines.specs.declared.gather.Arrived.TheVariants.{Word, Hello, Packet, Ack}

-- a packet that isn't whole yet: its head, and the changes that came
pub record Gathering : Type 0 where
  pub head : Head
  pub changes : List change.Change

-- of a gather: the packet that isn't whole yet, if there is one
abbrev pub Gather : Type 0
Gather = Option Gathering

abbrev pub extent_buffer : Extent → Option Buffer
extent_buffer (OfAccount account) = None
extent_buffer (OfBuffer buffer) = Some buffer

-- the buffer that a change speaks of, where it speaks of one
abbrev pub buffer_of : change.Change → Option Buffer
buffer_of c = extent_buffer (key_extent (key_of c))

-- the buffer of the change that came last of a packet that isn't whole yet
abbrev pub latest_buffer : Gather → Option Buffer
latest_buffer None = None
latest_buffer (Some g) = option_and_then buffer_of (slice_get g.changes (length g.changes - 1))

abbrev pub ArrivedOrFault : Type 0
ArrivedOrFault = Result (Option Arrived) LinkFault

-- what a line makes of a gather, and what arrives with it
pub record Pushed : Type 0 where
  pub gather : Gather
  pub answer : ArrivedOrFault

-- the line is refused, and the gather is empty
abbrev pub refused : Pushed
refused = record { gather = None; answer = Err BadForm }

abbrev pub arrives : Arrived → Pushed
arrives arrived = record { gather = None; answer = Ok (Some arrived) }

abbrev pub waits : Gathering → Pushed
waits g = record { gather = Some g; answer = Ok None }

-- a packet of which all changes came
abbrev pub packet_arrived : Gathering → Arrived
packet_arrived g = Packet (packet_of g.head g.changes)

-- after one more change a packet is whole, and arrives, or it waits for others
abbrev pub with_change : Head → List change.Change → Pushed
with_change head changes =
    if length changes == head.count
    then arrives (Packet (packet_of head changes))
    else waits (record { head = head; changes = changes })

abbrev pub pushed : Gather → PeerLine → Pushed
pushed None (line.Word word) = arrives (Word word)
pushed None (line.Hello life version) = arrives (Hello life version)
pushed None (line.Head head) = waits (record { head = head; changes = [] })
pushed None (line.Change c) = refused
pushed None (line.Ack ack) = arrives (Ack ack)
pushed (Some g) (line.Word word) = refused
pushed (Some g) (line.Hello life version) = refused
pushed (Some g) (line.Head head) = refused
pushed (Some g) (line.Change c) = with_change g.head (g.changes ++ c ∷ [])
pushed (Some g) (line.Ack ack) = refused

-- ---- lines in turn

abbrev pub after : Gather → List PeerLine → Gather
after g [] = g
after g (l ∷ ls) = after (pushed g l).gather ls

abbrev pub answers : Gather → List PeerLine → List ArrivedOrFault
answers g [] = []
answers g (l ∷ ls) = (pushed g l).answer ∷ answers (pushed g l).gather ls

-- ---- what a call answers

-- there was no memory for a line that isn't refused, or the answer is the one that is due
abbrev pub IsAnswerFor : ArrivedOrFault → ArrivedOrFault → Type 0
IsAnswerFor (Ok arrived) result = (result ≡ Ok arrived) ⊎ (result ≡ Err NoMemory)
IsAnswerFor (Err fault) result = result ≡ Err fault
