-- Who is at the other end of a connection with another node, by what came over it.
use Rattle.std.specs.Prelude.{ℕ, ◌≡◌, List, ◌++◌, Option, Some, slice_get}
use Rattle.std.specs.List.{AllZip}
use Rattle.irc_line.specs.Stream.{Item, items}
use Rattle.chat_change.specs.declared.change.Change.{Change}
use Rattle.cluster_directory.specs.Terms.{Terms, names_of}
use Rattle.gossip_link.specs.Arrival.{changes_of}
use Rattle.gossip_link.specs.Handshake.{ArePeers}
use Rattle.gossip_link.specs.Session.{IsRead}
use Rattle.peer_lines.specs.declared.gather.Arrived.{Arrived}
use Rattle.peer_lines.specs.declared.peer_line.PeerLine.{PeerLine}
use Rattle.network_log.specs.Facts.{NodeFacts}
use Rattle.network_log.specs.Peer.{bytes_in}
use Rattle.network_log.specs.Putting.{IsSide}
use Rattle.network_log.specs.declared.origin.Origin.{Origin}
use Rattle.gossip_link.specs.declared.handshake.Side.{Side}

-- what came is that line: the one that its bytes spell, or None where they spell none and where it was too long
abbrev pub IsLine : Item → Option PeerLine → Type 0
IsLine item line = IsRead (bytes_in item) line

abbrev pub AreLines : List Item → List (Option PeerLine) → Type 0
AreLines came lines = AllZip IsLine came lines

-- The other node has said the right word and the hello of a configured peer: the first of what came are a peer's lines.
pub record IsGreeted (terms : Terms) (came : List Item) : Type 0 where
  pub first : List Item
  pub more : List Item
  pub lines : List (Option PeerLine)
  pub all : came ≡ first ++ more
  pub lines_are : AreLines first lines
  pub are : ArePeers terms lines

-- What came are the lines of the peer at that place.
pub record ComesFrom (terms : Terms) (place : ℕ) (came : List Item) : Type 0 where
  pub lines : List (Option PeerLine)
  pub lines_are : AreLines came lines
  pub are : ArePeers terms lines
  pub is_there : slice_get (names_of terms) place ≡ Some are.peer.node

-- The changes are those of a message that came over a connection with another node, the first lines of which are those of a
-- configured peer.
pub record AreOfAPeer (facts : NodeFacts) (changes : List Change) : Type 0 where
  pub origin : Origin
  pub serial : ℕ
  pub received : List ℕ
  pub side : Side
  pub came : List Item
  pub later : List Item
  pub place : ℕ
  pub arrived : Arrived
  pub it_came : facts.came origin serial received
  pub is_side : IsSide origin side
  pub are_first : items received ≡ came ++ later
  pub is_message : changes ≡ changes_of arrived
  pub from : ComesFrom facts.terms place came
