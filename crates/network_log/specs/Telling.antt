-- What may be told over a connection.
use Rattle.std.specs.Prelude.{ℕ, ◌≡◌, List, ◌++◌, Option, Some, slice_get}
use mathlib.Core.List.{IsPrefix}
use Rattle.irc_line.specs.Stream.{Item, items}
use Rattle.cluster_directory.specs.declared.terms.PeerTerms.{PeerTerms}
use Rattle.gossip_link.specs.Session.{Session}
use Rattle.gossip_link.specs.declared.handshake.Side.{Side}
use Rattle.gossip_link.specs.declared.handshake.Side.TheVariants.{Opener, Acceptor}
use Rattle.gossip_link.specs.declared.heard.Heard.{Heard}
use Rattle.network_log.specs.Facts.{NodeFacts}
use Rattle.network_log.specs.Guest.{Guest}
use Rattle.network_log.specs.Host.{Host}
use Rattle.network_log.specs.NetworkState.{NetworkState}
use Rattle.network_log.specs.Peer.{PeerCourse}
use Rattle.network_log.specs.Truth.{IsNewcomer, IsReached}
use Rattle.network_log.specs.declared.origin.Origin.{Origin}
use Rattle.network_log.specs.declared.origin.Origin.TheVariants.{ClientCame, PeerCame, NetworkDialed, PeerDialed}

-- By what right these bytes are all that was told over a client's connection of that number, over which those were received.
-- In turn: it is a newcomer, and these are the first bytes that it is told; or a network has come to where these are the first
-- bytes that its client at that connection is told.
pub data IsToldToClient (facts : NodeFacts) (serial : ℕ) (received bytes : List ℕ) : Type 0 where
  AsNewcomer : (g : Guest)
      → IsNewcomer facts g
      → g.serial ≡ serial
      → g.received ≡ received
      → IsPrefix bytes g.told
      → IsToldToClient facts serial received bytes
  AsClient : (w : NetworkState) (place : ℕ) (g : Guest)
      → IsReached facts w
      → slice_get w.guests place ≡ Some g
      → g.serial ≡ serial
      → g.received ≡ received
      → IsPrefix bytes g.told
      → IsToldToClient facts serial received bytes

-- The same over a connection that was dialed for the server of that network: the network has come to where these are the first
-- bytes that its server at that connection is told.
pub record IsToldToServer (facts : NodeFacts) (network serial : ℕ) (received bytes : List ℕ) : Type 0 where
  pub world : NetworkState
  pub server : Host
  pub is_reached : IsReached facts world
  pub is_place : world.place ≡ network
  pub is_server : world.server ≡ Some server
  pub is_serial : server.serial ≡ serial
  pub is_received : server.received ≡ received
  pub is_told : IsPrefix bytes server.told

-- The same over a connection with another node: these are the first bytes that are said in some course of it, in which the
-- session heard the first lines of what was received, in order, each once.
pub record IsToldToPeer (facts : NodeFacts) (side : Side) (received bytes : List ℕ) : Type 0 where
  pub heard : List Item
  pub unheard : List Item
  pub session : Session
  pub brought : Heard
  pub noted : Option ℕ
  pub said : List ℕ
  pub course : PeerCourse facts side heard session brought noted said
  pub own : items received ≡ heard ++ unheard
  pub is_told : IsPrefix bytes said

-- a peer of the configuration
pub record IsPeer (facts : NodeFacts) (peer : ℕ) : Type 0 where
  pub terms : PeerTerms
  pub is_there : slice_get facts.terms.peers peer ≡ Some terms

-- where these bytes were received over the connection of that origin and number, those may be told over it
abbrev pub MayBeTold : NodeFacts → Origin → ℕ → List ℕ → List ℕ → Type 0
MayBeTold facts ClientCame serial received bytes = IsToldToClient facts serial received bytes
MayBeTold facts PeerCame serial received bytes = IsToldToPeer facts Acceptor received bytes
MayBeTold facts (NetworkDialed network) serial received bytes =
    IsToldToServer facts network serial received bytes
MayBeTold facts (PeerDialed peer) serial received bytes =
    IsPeer facts peer × IsToldToPeer facts (Opener peer) received bytes
