-- What comes of a message of a peer: a hello, a packet or an acknowledgement.
use Rattle.std.specs.Prelude.{ℕ, ◌≡◌, ◌⊎◌, Bool, true, not, ◌&&◌, ◌++◌, MatchBool, List, [], take, if◌then◌else◌}
use Rattle.chat_change.specs.declared.change.Change.{Change}
use Rattle.chat_history.specs.Growth.{AfterOthers}
use Rattle.peer_lines.specs.Packet as parts
use Rattle.peer_lines.specs.Spelling.{written}
use Rattle.peer_lines.specs.declared.gather.Arrived.{Arrived}
use Rattle.peer_lines.specs.declared.gather.Arrived.TheVariants.{Word, Hello, Packet, Ack}
use Rattle.peer_lines.specs.declared.peer_line.PeerLine.TheVariants as line
use Rattle.gossip_link.specs.Link.{Link}
use Rattle.gossip_link.specs.Peer.{hello_is_wrong, after_hello, packet_is_mine, ack_of, ack_is_mine, ack_is_too_high, after_ack}
use Rattle.gossip_link.specs.declared.outcome.Outcome.{Outcome}
use Rattle.gossip_link.specs.declared.outcome.Outcome.TheVariants.{Ignored, Known, Taken, TakenInPart}
use Rattle.gossip_link.specs.declared.pace.Pace.{Pace}
use Rattle.gossip_link.specs.Pace as pace

-- the changes that a message brings
abbrev pub changes_of : Arrived → List Change
changes_of (Packet p) = p.changes
changes_of _ = []

-- an acknowledgement is from the known life of the peer to this one, and of what was sent
abbrev pub ack_counts : Link → parts.Ack → Bool
ack_counts l a = ack_is_mine l.me l.name l.peer a && not (ack_is_too_high l.peer a)

abbrev pub link_after : Link → Arrived → Link
link_after l (Hello life version) = record l { peer = after_hello l.name l.peer life version }
link_after l (Ack a) = record l { peer = after_ack l.me l.name l.peer a }
link_after l _ = l

abbrev pub pace_after : Link → Arrived → Pace → Pace
pace_after l (Hello life version) p = if hello_is_wrong l.name l.peer life then p else pace.greeted p
pace_after l (Ack a) p = if ack_counts l a then pace.acknowledged a.upto p else p
pace_after l _ p = p

-- a packet from a life of the peer to this one
abbrev pub IsPacketForMe : Link → Arrived → Type 0
IsPacketForMe l (Packet p) = packet_is_mine l.me l.name p ≡ true
IsPacketForMe l _ = ⊥

-- a packet that was taken is acknowledged, and to nothing else there is a reply
abbrev pub reply : Link → Arrived → Outcome → List ℕ
reply l (Packet p) Taken = written (line.Ack (ack_of l.me p))
reply l _ _ = []

-- what a message may do
abbrev pub IsOutcome : Link → Arrived → Outcome → Type 0
IsOutcome l (Word word) o = o ≡ Ignored
IsOutcome l (Hello life version) o = o ≡ (if hello_is_wrong l.name l.peer life then Ignored else Known)
IsOutcome l (Ack a) o = o ≡ (if ack_counts l a then Known else Ignored)
IsOutcome l (Packet p) o =
    MatchBool (packet_is_mine l.me l.name p) ((o ≡ Taken) ⊎ (o ≡ TakenInPart)) (o ≡ Ignored)

-- of a taker before and after: what it took of the changes of a message that came to this
abbrev pub IsTaken : {T : Type 0} → (T → ℕ → List Change → Type 0)
    → (T → List Change → Type 0) → T → T → List Change → Outcome → Type 0
IsTaken holds may_add old new changes Ignored = new ≡ old
IsTaken holds may_add old new changes Known = new ≡ old
IsTaken holds may_add old new changes Taken =
    AfterOthers holds may_add old (λ start all. holds new start (all ++ changes))
IsTaken holds may_add old new changes TakenInPart =
    AfterOthers holds may_add old (λ start all. (count : ℕ)
    × holds new start (all ++ take count changes))
