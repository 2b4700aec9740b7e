-- A connection with another node, as it stands.
use Rattle.std.specs.Prelude.{ℕ, List, [], ◌++◌, Option, None}
use Rattle.irc_line.specs.Stream.{Held, holding, held_with}
use Rattle.cluster_directory.specs.Terms.{Terms}
use Rattle.gossip_link.specs.declared.handshake.Side.{Side}
use Rattle.gossip_link.specs.declared.handshake.Side.TheVariants.{Opener, Acceptor}
use Rattle.network_log.specs.declared.origin.Origin.{Origin}
use Rattle.network_log.specs.declared.origin.Origin.TheVariants.{PeerCame, PeerDialed}
use Rattle.node_peers.specs.Talk.{Talk, new_talk}
use Rattle.node_peers.specs.declared.loss.PeerLoss.{PeerLoss}

-- In turn:
--   side      which of the two nodes opened it
--   serial    its number
--   received  every byte that came over it, in order
--   unread    what of that isn't heard yet
--   sent      every byte that went out, in order
--   talk      what its session came to
--   heard_at  when bytes came last, in milliseconds
--   loss      why nothing is said any more, where that is so
pub record PeerState : Type 0 where
  pub side : Side
  pub serial : ℕ
  pub received : List ℕ
  pub unread : Held
  pub sent : List ℕ
  pub talk : Talk
  pub heard_at : ℕ
  pub loss : Option PeerLoss

-- all that was said to it
abbrev pub said_to : PeerState → List ℕ
said_to p = p.sent ++ p.talk.owed

abbrev pub origin_of : Side → Origin
origin_of (Opener peer) = PeerDialed peer
origin_of Acceptor = PeerCame

-- the connection of that number is there from that moment on
abbrev pub new_peer : Terms → Side → ℕ → ℕ → PeerState
new_peer terms side serial now = record {
  side = side;
  serial = serial;
  received = [];
  unread = holding [];
  sent = [];
  talk = new_talk terms side now;
  heard_at = now;
  loss = None;
}

-- bytes came over it at that moment
abbrev pub with_received : List ℕ → ℕ → PeerState → PeerState
with_received bytes now p = record p {
  received = p.received ++ bytes;
  unread = held_with p.unread bytes;
  heard_at = now;
}

-- its session came to that
abbrev pub talked : Talk → PeerState → PeerState
talked t p = record p { talk = t }
