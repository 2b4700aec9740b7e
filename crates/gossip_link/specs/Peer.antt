-- What a node knows of a peer, and what each message does to it.
use Rattle.std.specs.Prelude.{ℕ, max, Bool, true, false, not, ◌&&◌, ◌||◌, ◌==◌, Option, Some, None, List, length, nat_lt, if◌then◌else◌}
use Rattle.std.specs.Option.{IfSome}
use Rattle.std.specs.List.{AllByRecursion}
use Rattle.chat_change.specs.declared.change.Change.{Change}
use Rattle.chat_change.specs.Lawful.{IsLawfulChange}
use Rattle.chat_history.specs.Numbering.{Delta}
use Rattle.cluster_directory.specs.Life.{Life, same_life}
use Rattle.peer_lines.specs.Packet.{Packet, Ack}
use Rattle.cluster_directory.specs.Names.{same_name}
use Rattle.peer_lines.specs.Spelling.{IsPacket}
use Rattle.cluster_directory.specs.Version.{is_lower}
use Rattle.cluster_directory.specs.declared.version.Version.{Version}
use Rattle.gossip_link.specs.declared.link.KnownLife.{KnownLife}

pub record Peer : Type 0 where
  pub heard : Option KnownLife  -- what a hello told of the peer's present life, its incarnation and its version
  pub acked : ℕ  -- the greatest number that this life of the peer acknowledged
  pub sent : ℕ  -- the greatest number that was sent to this life of the peer

abbrev pub unheard : Peer
unheard = record { heard = None; acked = 0; sent = 0 }

-- ---- hellos

-- whether an incarnation is the first that is heard of, or greater
abbrev pub is_news : Option KnownLife → ℕ → Bool
is_news None i = true
is_news (Some known) i = nat_lt known.incarnation i

abbrev pub is_older : Option KnownLife → ℕ → Bool
is_older None i = false
is_older (Some known) i = nat_lt i known.incarnation

-- of a peer's name, what is known of it, and the life that says hello
abbrev pub hello_is_wrong : List ℕ → Peer → Life → Bool
hello_is_wrong name p life = not (same_name name life.node) || is_older p.heard life.incarnation

abbrev pub hello_is_news : List ℕ → Peer → Life → Bool
hello_is_news name p life = same_name name life.node && is_news p.heard life.incarnation

-- a later hello of a life that is known changes nothing, whatever version it bears
abbrev pub after_hello : List ℕ → Peer → Life → Version → Peer
after_hello name p life version =
    if hello_is_news name p life
    then record {
      heard = Some (record { incarnation = life.incarnation; version = version });
      acked = 0;
      sent = 0;
    }
    else p

-- ---- packets

-- whether packets are made for a peer by a node that speaks this version: its life is known, and speaks no lower one
abbrev pub is_served : Version → Option KnownLife → Bool
is_served own None = false
is_served own (Some known) = not (is_lower known.version own)

-- the packet of a delta, from my life to the peer's, if the peer is served and the delta has changes
abbrev pub packet_of : Version → Life → List ℕ → Option KnownLife → Delta → Option Packet
packet_of own me name None d = None
packet_of own me name (Some known) d =
    if is_lower known.version own || (length d.changes == 0)
    then None
    else Some (record {
      sender = me;
      receiver = record { node = name; incarnation = known.incarnation };
      from = d.from;
      to = d.to;
      changes = d.changes;
    })

abbrev pub after_packet : Peer → Packet → Peer
after_packet p packet = record { heard = p.heard; acked = p.acked; sent = max p.sent packet.to }

-- a packet that is made of lawful changes may be written
abbrev pub MayBeWritten : List Change → Option Packet → Type 0
MayBeWritten taken packet = AllByRecursion IsLawfulChange taken → IfSome packet IsPacket

-- where there was none, nothing is sent
abbrev pub after_make : Peer → Option Packet → Peer
after_make p None = p
after_make p (Some packet) = after_packet p packet

-- whether a packet is for my life, from the peer in any of its lives
abbrev pub packet_is_mine : Life → List ℕ → Packet → Bool
packet_is_mine me name packet = same_life packet.receiver me && same_name packet.sender.node name

abbrev pub ack_of : Life → Packet → Ack
ack_of me packet = record { sender = me; receiver = packet.sender; upto = packet.to }

-- ---- acknowledgements

abbrev pub is_known : Option KnownLife → ℕ → Bool
is_known None i = false
is_known (Some known) i = known.incarnation == i

-- whether an acknowledgement is for my life, from the life of the peer that is known
abbrev pub ack_is_mine : Life → List ℕ → Peer → Ack → Bool
ack_is_mine me name p ack =
    same_life ack.receiver me
    && (same_name ack.sender.node name && is_known p.heard ack.sender.incarnation)

abbrev pub ack_is_too_high : Peer → Ack → Bool
ack_is_too_high p ack = nat_lt p.sent ack.upto

abbrev pub after_ack : Life → List ℕ → Peer → Ack → Peer
after_ack me name p ack =
    if ack_is_mine me name p ack && (not (ack_is_too_high p ack) && nat_lt p.acked ack.upto)
    then record { heard = p.heard; acked = ack.upto; sent = p.sent }
    else p
