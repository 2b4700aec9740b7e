-- What a session with a peer came to, and what it says.
use Rattle.std.specs.Prelude.{ℕ, ◌≡◌, ◌==◌, true, false, List, ◌++◌, Option, None, Some, length, if◌then◌else◌}
use Rattle.cluster_directory.specs.Life.{Life}
use Rattle.cluster_directory.specs.Terms.{Terms}
use Rattle.peer_lines.specs.Packet.{Packet}
use Rattle.peer_lines.specs.Spelling.{written}
use Rattle.peer_lines.specs.declared.gather.Arrived.{Arrived}
use Rattle.peer_lines.specs.declared.peer_line.PeerLine.TheVariants as line
use Rattle.gossip_link.specs.Arrival.{IsOutcome, changes_of, pace_after, reply}
use Rattle.gossip_link.specs.Link.{Link}
use Rattle.gossip_link.specs.Pace as pace
use Rattle.gossip_link.specs.Packets.{text_of, to_of}
use Rattle.gossip_link.specs.Session.{Session, Step, new, opening, own_hello}
use Rattle.gossip_link.specs.declared.handshake.Side.{Side}
use Rattle.gossip_link.specs.declared.heard.Heard.{Heard}
use Rattle.gossip_link.specs.declared.heard.Heard.TheVariants.{Nothing, Message}
use Rattle.gossip_link.specs.declared.outcome.Outcome.{Outcome}
use Rattle.gossip_link.specs.declared.pace.Pace.{Pace}
use Rattle.network_log.specs.Facts.{NodeFacts}
use Rattle.network_log.specs.Peer.{IsOwnIfAny, IsTakenSo, nothing_of, with_pace}

-- In turn:
--   session  how far it has come
--   brought  what its last line brought and isn't carried out yet
--   noted    the place of the peer that was noted as the one at the other end
--   owed     what was said and isn't sent yet
--   said_at  when bytes were said last, in milliseconds
pub record Talk : Type 0 where
  pub session : Session
  pub brought : Heard
  pub noted : Option ℕ
  pub owed : List ℕ
  pub said_at : ℕ

-- it begins at that moment
abbrev pub new_talk : Terms → Side → ℕ → Talk
new_talk terms side now = record {
  session = new side;
  brought = Nothing;
  noted = None;
  owed = opening terms side;
  said_at = now;
}

-- when bytes were said last, after these were said at that moment
abbrev pub said_last : List ℕ → ℕ → ℕ → ℕ
said_last bytes now at = if length bytes == 0 then at else now

-- these bytes are said at that moment
abbrev pub saying : List ℕ → ℕ → Talk → Talk
saying bytes now t = record t { owed = t.owed ++ bytes; said_at = said_last bytes now t.said_at }

-- a line comes to that
abbrev pub after_step : Step → ℕ → Talk → Talk
after_step s now t = saying s.sent now (record t { session = s.session; brought = s.heard })

-- when packets are made is that now
abbrev pub at_pace : Pace → Talk → Talk
at_pace p t = record t { session = with_pace t.session p }

-- the place of the peer whose message it is
abbrev pub place_of : Heard → Option ℕ
place_of (Message place arrived) = Some place
place_of _ = None

abbrev pub noted_by : Heard → Option ℕ → Option ℕ
noted_by brought None = place_of brought
noted_by brought (Some place) = Some place

-- the peer whose message came is noted as the one at the other end, where none was
abbrev pub noting : Talk → Talk
noting t = record t { noted = noted_by t.brought t.noted }

-- The message is carried out at that moment on that link and came to that outcome: the node has what it says that it took, and
-- the reply is said.
pub record IsCarriedOut (facts : NodeFacts) (link : Link) (message : Heard) (outcome : Outcome) (now : ℕ) (old new : Talk) : Type 0 where
  pub place : ℕ
  pub arrived : Arrived
  pub is_message : old.brought ≡ Message place arrived
  pub is_same : message ≡ Message place arrived
  pub is_outcome : IsOutcome link arrived outcome
  pub is_taken : IsTakenSo facts (changes_of arrived) outcome
  pub is_new : new ≡ saying (reply link arrived outcome) now
      (record (at_pace (pace_after link arrived old.session.pace) old) { brought = Nothing })

-- A packet for the peer that was noted is made at that moment of what the node holds, or none since nothing is new.
pub record IsMade (facts : NodeFacts) (now : ℕ) (old new : Talk) : Type 0 where
  pub packet : Option Packet
  pub is_own : IsOwnIfAny facts old.noted packet
  pub is_new : new ≡ saying (text_of packet) now (at_pace (pace.made (to_of packet) now old.session.pace) old)

-- one is made where one is due
abbrev pub IsAdvanced : NodeFacts → ℕ → Talk → Talk → Type 0
IsAdvanced facts now old new =
    (pace.is_due old.session.pace ≡ false → new ≡ old)
    × (pace.is_due old.session.pace ≡ true → IsMade facts now old new)

-- It ended, for want of memory or because of a line: what was owed still is, and so is the peer that was noted.
pub record IsEnded (old new : Talk) : Type 0 where
  pub owed : new.owed ≡ old.owed
  pub noted : new.noted ≡ old.noted

-- the own hello is said again to the peer at that place
abbrev pub repeating : Terms → ℕ → ℕ → Talk → Talk
repeating terms place now t = saying (own_hello terms place) now t

-- the peer is told, by an acknowledgement of nothing, which life of it is known
abbrev pub reminding : Life → Life → ℕ → Talk → Talk
reminding me life now t = saying (written (line.Ack (nothing_of me life))) now t

-- the link is that of the same nodes
pub record IsSameTie (old new : Link) : Type 0 where
  pub me : new.me ≡ old.me
  pub name : new.name ≡ old.name
