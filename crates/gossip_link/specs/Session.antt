-- One connection with a peer, and what comes of each of its lines.
use Rattle.std.specs.Prelude.{ℕ, ◌≡◌, ◌++◌, Bool, true, false, Option, Some, None, List, [], Ok, Err, if◌then◌else◌}
use Rattle.peer_lines.specs.Gather as gather
use Rattle.peer_lines.specs.Gather.{Gather, pushed}
use Rattle.peer_lines.specs.Spelling.{Spells, written}
use Rattle.peer_lines.specs.declared.peer_line.PeerLine.{PeerLine}
use Rattle.peer_lines.specs.declared.peer_line.PeerLine.TheVariants as line
use Rattle.cluster_directory.specs.Names.{same_name}
use Rattle.cluster_directory.specs.Terms.{Terms, version_for}
use Rattle.gossip_link.specs.Handshake.{after, action, greeted_first}
use Rattle.gossip_link.specs.declared.handshake.Handshake.{Handshake}
use Rattle.gossip_link.specs.declared.handshake.Side.{Side}
use Rattle.gossip_link.specs.declared.handshake.HandshakeStage.TheVariants.{Silent, Refused}
use Rattle.gossip_link.specs.declared.handshake.Action.{Action}
use Rattle.gossip_link.specs.declared.handshake.Action.TheVariants as act
use Rattle.gossip_link.specs.declared.heard.Fault.{Fault}
use Rattle.gossip_link.specs.declared.heard.Fault.TheVariants.{WrongWord, UnknownNode, OwnName, BadLine}
use Rattle.gossip_link.specs.declared.heard.Heard.{Heard}
use Rattle.gossip_link.specs.declared.heard.Heard.TheVariants.{Nothing, Message, Close}
use Rattle.gossip_link.specs.declared.pace.Pace.{Pace}
use Rattle.gossip_link.specs.Pace as pace

pub record Session : Type 0 where
  pub handshake : Handshake  -- how far the other node has come
  pub gather : Gather  -- the packet that isn't whole yet
  pub pace : Pace  -- when packets are made for it

abbrev pub new : Side → Session
new side = record {
  handshake = record { side = side; stage = Silent };
  gather = None;
  pace = pace.new;
}

-- a session after a line, what the line came to, and what is sent because of it
pub record Step : Type 0 where
  pub session : Session
  pub heard : Heard
  pub sent : List ℕ

-- the own hello, in the version for the peer at a place
abbrev pub own_hello : Terms → ℕ → List ℕ
own_hello t place = written (line.Hello t.me (version_for t place))

-- the shared word, and the own hello to the peer at a place
abbrev pub greeting : Terms → ℕ → List ℕ
greeting t place = written (line.Word t.word) ++ own_hello t place

abbrev pub greeting_if : Terms → Option ℕ → List ℕ
greeting_if t None = []
greeting_if t (Some place) = greeting t place

-- what is sent before any line came
abbrev pub opening : Terms → Side → List ℕ
opening t side = greeting_if t (greeted_first side)

-- the connection is over: nothing is left of a packet that wasn't whole, and none is due
abbrev pub refused : Session → Session
refused s = record {
  handshake = record s.handshake { stage = Refused };
  gather = None;
  pace = pace.new;
}

-- the fault of a hello of a node, at a node of the first name
abbrev pub fault_of_hello : List ℕ → List ℕ → Fault
fault_of_hello me name = if same_name name me then OwnName else UnknownNode

-- the fault of a line that the handshake refuses, by what the line is, at a node of that name
abbrev pub fault_of : List ℕ → Option PeerLine → Fault
fault_of me (Some (line.Word word)) = WrongWord
fault_of me (Some (line.Hello life version)) = fault_of_hello me life.node
fault_of me _ = BadLine

-- whether the connection is to be closed
abbrev pub is_close : Heard → Bool
is_close (Close fault) = true
is_close _ = false

abbrev pub closed : Session → Fault → Step
closed s fault = record { session = refused s; heard = Close fault; sent = [] }

abbrev pub gathered : Session → ℕ → Gather → gather.ArrivedOrFault → Step
gathered s place g (Ok None) =
    record { session = record s { gather = g }; heard = Nothing; sent = [] }
gathered s place g (Ok (Some arrived)) =
    record { session = record s { gather = g }; heard = Message place arrived; sent = [] }
gathered s place g (Err fault) = closed s BadLine

-- a line that is handed up is gathered
abbrev pub handed_up : Session → ℕ → Option PeerLine → Step
handed_up s place None = closed s BadLine
handed_up s place (Some l) = gathered s place (pushed s.gather l).gather (pushed s.gather l).answer

abbrev pub acted : Terms → Session → Option PeerLine → Action → Step
acted t s l act.Wait = record { session = s; heard = Nothing; sent = [] }
acted t s l (act.GreetAndHandUp place) = record (handed_up s place l) { sent = greeting t place }
acted t s l (act.HandUp place) = handed_up s place l
acted t s l act.Close = closed s (fault_of t.me.node l)

-- what comes of a line. None stands for one that can't be read or is too long
abbrev pub step : Terms → Session → Option PeerLine → Step
step t s l =
    let stage = after t s.handshake.stage l in
    acted t (record s { handshake = record s.handshake { stage = stage } }) l
    (action s.handshake.side stage)

-- ---- bytes

-- the line that bytes spell, or that they spell none. Without bytes the line was too long
abbrev pub IsRead : Option (List ℕ) → Option PeerLine → Type 0
IsRead None l = l ≡ None
IsRead (Some bytes) None = (l : PeerLine) → Spells bytes l → ⊥
IsRead (Some bytes) (Some l) = Spells bytes l

-- the bytes spell a line
abbrev pub SpellsSome : Option (List ℕ) → Type 0
SpellsSome None = ⊥
SpellsSome (Some bytes) = (l : PeerLine) × Spells bytes l

-- this holds of what comes of the line that the bytes spell
abbrev pub AfterBytes : Terms → Session → Option (List ℕ) → (Step → Type 0) → Type 0
AfterBytes t s bytes Then = (l : Option PeerLine) × IsRead bytes l × Then (step t s l)
