-- The course of a connection with a peer: what its session heard and came to, and all that was said over it.
use Rattle.std.specs.Prelude.{ℕ, ◌≡◌, true, false, List, [], ◌∷◌, ◌++◌, Option, None, Some, slice_get}
use Rattle.irc_line.specs.Stream.{Item, line as whole_line, too_long as cut_line}
use Rattle.chat_change.specs.declared.change.Change.{Change}
use Rattle.chat_history.specs.Numbering.{delta}
use Rattle.cluster_directory.specs.Life.{Life}
use Rattle.cluster_directory.specs.Terms.{names_of}
use Rattle.cluster_directory.specs.declared.version.TheConstants.Version.{OWN}
use Rattle.peer_lines.specs.Packet.{Ack, Packet}
use Rattle.peer_lines.specs.Spelling.{written}
use Rattle.peer_lines.specs.declared.gather.Arrived.{Arrived}
use Rattle.peer_lines.specs.declared.peer_line.PeerLine.{PeerLine}
use Rattle.peer_lines.specs.declared.peer_line.PeerLine.TheVariants as line
use Rattle.gossip_link.specs.Link.{Link}
use Rattle.gossip_link.specs.Peer.{packet_of}
use Rattle.gossip_link.specs.declared.handshake.Side.{Side}
use Rattle.gossip_link.specs.Arrival.{IsOutcome, changes_of, pace_after, reply}
use Rattle.gossip_link.specs.Packets.{text_of, to_of}
use Rattle.gossip_link.specs.Pace as pace
use Rattle.gossip_link.specs.Session.{Session, IsRead, new, opening, own_hello, step, is_close}
use Rattle.gossip_link.specs.declared.heard.Heard.{Heard}
use Rattle.gossip_link.specs.declared.heard.Heard.TheVariants.{Nothing, Message}
use Rattle.gossip_link.specs.declared.outcome.Outcome.{Outcome}
use Rattle.gossip_link.specs.declared.outcome.Outcome.TheVariants.{Taken}
use Rattle.gossip_link.specs.declared.pace.Pace.{Pace}
use Rattle.network_log.specs.Facts.{NodeFacts}

-- the bytes of a line, without its ending. None of one that was too long
abbrev pub bytes_in : Item → Option (List ℕ)
bytes_in (whole_line bytes) = Some bytes
bytes_in cut_line = None

abbrev pub with_pace : Session → Pace → Session
with_pace session p = record session { pace = p }

-- an acknowledgement of nothing to a life, by which its node sees that it is known
abbrev pub nothing_of : Life → Life → Ack
nothing_of me life = record { sender = me; receiver = life; upto = 0 }

-- ---- what the node has to do with it

-- the node has published these changes, one behind the other
pub record IsInNode (facts : NodeFacts) (changes : List Change) : Type 0 where
  pub before : List Change
  pub behind : List Change
  pub is_held : facts.held (before ++ (changes ++ behind))

-- a message that is said to be taken is in the node
abbrev pub IsTakenSo : NodeFacts → List Change → Outcome → Type 0
IsTakenSo facts changes Taken = ∥ IsInNode facts changes ∥₁
IsTakenSo facts changes _ = Unit {0}

-- ---- what the node knows of the peer

-- the link is this node's, with the peer at that place of its configuration
pub record IsLinkWith (facts : NodeFacts) (place : ℕ) (link : Link) : Type 0 where
  pub is_own : link.me ≡ facts.terms.me
  pub is_name : slice_get (names_of facts.terms) place ≡ Some link.name

-- the packet is for the peer that was noted, and has what the node held by then and that peer has not acknowledged
pub record IsOwnPacket (facts : NodeFacts) (noted : Option ℕ) (packet : Packet) : Type 0 where
  pub place : ℕ
  pub link : Link
  pub changes : List Change
  pub is_noted : noted ≡ Some place
  pub is_link : IsLinkWith facts place link
  pub is_held : facts.held changes
  pub is_packet : Some packet ≡ packet_of OWN link.me link.name link.peer.heard (delta 0 changes link.peer.acked)

abbrev pub IsOwnIfAny : NodeFacts → Option ℕ → Option Packet → Type 0
IsOwnIfAny facts noted None = Unit {0}
IsOwnIfAny facts noted (Some packet) = ∥ IsOwnPacket facts noted packet ∥₁

-- ---- the course

-- What a session may have come to by what it heard of what came over its connection, with what its last line brought and isn't
-- carried out yet, the place of the peer that was noted as the one at the other end, and all that was said to it. In turn:
--   Opens      the connection is there: what is said first waits for the peer, and that is nothing where the other node opened it
--   Hears      a line comes, or one that was too long or can't be read (None), once what the line before brought is carried out:
--              what the session says to it waits behind the others. A line for which the connection is to be closed ends the
--              course, and so does want of memory: nothing is said any more
--   Notes      the peer whose message came is noted as the one at the other end
--   Replies    the message that came is carried out on the link with its peer, and the reply to it waits behind the others. It is
--              acknowledged only where the node has it
--   Publishes  something is published
--   Ticks      it is that moment
--   Makes      a packet is made where one is due, or none since nothing is new, and its lines wait behind the others
--   Repeats    the own hello is said again to the peer that was noted
--   Reminds    the peer that was noted is told, by an acknowledgement of nothing, which life of it is known
pub data PeerCourse (facts : NodeFacts) (side : Side) : List Item → Session → Heard → Option ℕ → List ℕ → Type 0 where
  Opens : PeerCourse facts side [] (new side) Nothing None (opening facts.terms side)
  Hears : {heard : List Item} {session : Session} {noted : Option ℕ} {said : List ℕ}
      (item : Item) (line : Option PeerLine)
      → IsRead (bytes_in item) line
      → is_close (step facts.terms session line).heard ≡ false
      → PeerCourse facts side heard session Nothing noted said
      → PeerCourse facts side (heard ++ item ∷ []) (step facts.terms session line).session
      (step facts.terms session line).heard noted (said ++ (step facts.terms session line).sent)
  Notes : {heard : List Item} {session : Session} {said : List ℕ} (place : ℕ) (arrived : Arrived)
      → PeerCourse facts side heard session (Message place arrived) None said
      → PeerCourse facts side heard session (Message place arrived) (Some place) said
  Replies : {heard : List Item} {session : Session} {noted : Option ℕ} {said : List ℕ}
      (place : ℕ) (arrived : Arrived) (link : Link) (outcome : Outcome)
      → IsLinkWith facts place link
      → IsOutcome link arrived outcome
      → IsTakenSo facts (changes_of arrived) outcome
      → PeerCourse facts side heard session (Message place arrived) noted said
      → PeerCourse facts side heard (with_pace session (pace_after link arrived session.pace)) Nothing noted
      (said ++ reply link arrived outcome)
  Publishes : {heard : List Item} {session : Session} {brought : Heard} {noted : Option ℕ} {said : List ℕ}
      → PeerCourse facts side heard session brought noted said
      → PeerCourse facts side heard (with_pace session (pace.published session.pace)) brought noted said
  Ticks : {heard : List Item} {session : Session} {brought : Heard} {noted : Option ℕ} {said : List ℕ} (now : ℕ)
      → PeerCourse facts side heard session brought noted said
      → PeerCourse facts side heard (with_pace session (pace.ticked now session.pace)) brought noted said
  Makes : {heard : List Item} {session : Session} {brought : Heard} {noted : Option ℕ} {said : List ℕ}
      (packet : Option Packet) (now : ℕ)
      → pace.is_due session.pace ≡ true
      → IsOwnIfAny facts noted packet
      → PeerCourse facts side heard session brought noted said
      → PeerCourse facts side heard (with_pace session (pace.made (to_of packet) now session.pace)) brought noted
      (said ++ text_of packet)
  Repeats : {heard : List Item} {session : Session} {brought : Heard} {said : List ℕ} (place : ℕ)
      → PeerCourse facts side heard session brought (Some place) said
      → PeerCourse facts side heard session brought (Some place) (said ++ own_hello facts.terms place)
  Reminds : {heard : List Item} {session : Session} {brought : Heard} {said : List ℕ} (place : ℕ) (life : Life)
      → PeerCourse facts side heard session brought (Some place) said
      → PeerCourse facts side heard session brought (Some place)
      (said ++ written (line.Ack (nothing_of facts.terms.me life)))
