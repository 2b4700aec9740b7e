-- What may be put into the node, and what is known of it then.
use Rattle.std.specs.Prelude.{ℕ, ◌≡◌, List, [], ◌∷◌, ◌++◌, Option, Some, slice_get, false}
use Rattle.irc_line.specs.Stream.{Item, items}
use Rattle.chat_change.specs.declared.change.Change.{Change}
use Rattle.chat_history.specs.History.{norm}
use Rattle.chat_history.specs.Retention.{due_floors}
use Rattle.client_session.specs.declared.effect.Effect.{Effect}
use Rattle.client_session.specs.declared.effect.Effect.TheVariants.{Put}
use Rattle.gossip_link.specs.Arrival.{changes_of as changes_brought}
use Rattle.gossip_link.specs.Session.{Session}
use Rattle.gossip_link.specs.declared.handshake.Side.{Side}
use Rattle.gossip_link.specs.declared.handshake.Side.TheVariants.{Opener, Acceptor}
use Rattle.gossip_link.specs.declared.heard.Heard.TheVariants.{Message}
use Rattle.peer_lines.specs.declared.gather.Arrived.{Arrived}
use Rattle.network_log.specs.Facts.{NodeFacts}
use Rattle.network_log.specs.Guest.{Guest}
use Rattle.network_log.specs.NetworkState.{NetworkState, changes_of}
use Rattle.network_log.specs.Peer.{PeerCourse}
use Rattle.network_log.specs.Truth.{IsReached}
use Rattle.network_log.specs.declared.origin.Origin.{Origin}
use Rattle.network_log.specs.declared.origin.Origin.TheVariants.{PeerCame, PeerDialed}

-- ---- for a network

-- In turn: what came of the server's lines and isn't put yet; and a marker that is next of what a client of the network, which
-- isn't gone, has to do.
pub data IsNextPut (w : NetworkState) (changes : List Change) : Type 0 where
  OfServer : changes_of w.batch ≡ changes → IsNextPut w changes
  OfClient : (place : ℕ) (g : Guest) (change : Change) (more : List Effect)
      → slice_get w.guests place ≡ Some g
      → g.is_gone ≡ false
      → g.todo ≡ Put change ∷ more
      → changes ≡ change ∷ []
      → IsNextPut w changes

-- By what right changes are put for the network at that place: it has come to where just these were put for it, the node was
-- last seen to hold those, and the changes are next.
pub record MayBePutFor (facts : NodeFacts) (place : ℕ) (puts held changes : List Change) : Type 0 where
  pub world : NetworkState
  pub is_reached : IsReached facts world
  pub is_place : world.place ≡ place
  pub is_puts : world.puts ≡ puts
  pub is_held : world.held ≡ held
  pub is_next : IsNextPut world changes

-- ---- what is known of the node then

-- the node was seen again: it holds the same, or more
pub data IsSeen (facts : NodeFacts) (old new : List Change) : Type 0 where
  Same : new ≡ old → IsSeen facts old new
  More : (changes : List Change) → new ≡ old ++ changes → facts.held new → IsSeen facts old new

-- the changes were published behind all that the node held, which may have been more than before
pub record ArePublished (facts : NodeFacts) (old changes new : List Change) : Type 0 where
  pub others : List Change
  pub is_seen : IsSeen facts old (old ++ others)
  pub is_held : facts.held new
  pub is_new : new ≡ (old ++ others) ++ changes

-- ---- by a worker itself

-- the floors are due in what the node was last seen to hold, at a moment of its clock
pub record AreDueFloors (facts : NodeFacts) (held floors : List Change) : Type 0 where
  pub now : ℕ
  pub is_now : facts.clock now
  pub are_due : floors ≡ due_floors (norm held) now facts.days

-- the side on which this node is of a connection of that origin, with another node
pub data IsSide : Origin → Side → Type 0 where
  Accepts : IsSide PeerCame Acceptor
  Opens : (peer : ℕ) → IsSide (PeerDialed peer) (Opener peer)

-- The changes are those of a message that a peer sent once the two had greeted each other: it is what the last line of a
-- course brought, in which the session heard the first lines of what came over one connection, in order, each once.
pub record AreBrought (facts : NodeFacts) (changes : List Change) : Type 0 where
  pub origin : Origin
  pub serial : ℕ
  pub received : List ℕ
  pub side : Side
  pub heard : List Item
  pub unheard : List Item
  pub session : Session
  pub place : ℕ
  pub arrived : Arrived
  pub noted : Option ℕ
  pub said : List ℕ
  pub it_came : facts.came origin serial received
  pub is_side : IsSide origin side
  pub own : items received ≡ heard ++ unheard
  pub course : PeerCourse facts side heard session (Message place arrived) noted said
  pub is_message : changes ≡ changes_brought arrived
