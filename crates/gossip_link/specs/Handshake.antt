-- What a node makes of the lines that come over a connection, until it knows the peer at the other
-- end.
use Rattle.std.specs.Prelude.{ℕ, ◌≡◌, ◌≢◌, ⊤, Bool, true, false, ◌==◌, Contains, Option, Some, None, List, [], ◌∷◌, if◌then◌else◌}
use Rattle.std.specs.List.{AllByRecursion}
use Rattle.cluster_directory.specs.Names.{same_name}
use Rattle.cluster_directory.specs.Life.{Life}
use Rattle.cluster_directory.specs.Terms.{Terms, names_of, index_of}
use Rattle.cluster_directory.specs.declared.version.Version.{Version}
use Rattle.peer_lines.specs.declared.peer_line.PeerLine.{PeerLine}
use Rattle.peer_lines.specs.declared.peer_line.PeerLine.TheVariants.{Word, Hello, Head, Change, Ack}
use Rattle.gossip_link.specs.declared.handshake.Side.{Side}
use Rattle.gossip_link.specs.declared.handshake.Side.TheVariants.{Opener, Acceptor}
use Rattle.gossip_link.specs.declared.handshake.HandshakeStage.{HandshakeStage}
use Rattle.gossip_link.specs.declared.handshake.HandshakeStage.TheVariants.{Silent, Trusted, Introduced, Known, Refused}
use Rattle.gossip_link.specs.declared.handshake.Action.{Action}
use Rattle.gossip_link.specs.declared.handshake.Action.TheVariants.{Wait, GreetAndHandUp, HandUp, Close}

-- ---- what a node may be

-- the name is that of a configured peer and not the own one
abbrev pub IsPeer : Terms → List ℕ → Type 0
IsPeer t name = Contains (names_of t) name × (name ≢ t.me.node)

-- after its first hello a peer says its word no more, and says hello as nobody else
abbrev pub KeepsTo : Life → Option PeerLine → Type 0
KeepsTo peer None = ⊥
KeepsTo peer (Some (Word word)) = ⊥
KeepsTo peer (Some (Hello life version)) = life.node ≡ peer.node
KeepsTo peer (Some (Head head)) = ⊤
KeepsTo peer (Some (Change change)) = ⊤
KeepsTo peer (Some (Ack ack)) = ⊤

-- the lines of a peer: the shared word, then a hello of a configured peer other than this node, then
-- what that peer sends
pub record ArePeers (t : Terms) (lines : List (Option PeerLine)) : Type 0 where
  pub peer : Life
  pub version : Version
  pub more : List (Option PeerLine)
  pub are : lines ≡ Some (Word t.word) ∷ Some (Hello peer version) ∷ more
  pub is_peer : IsPeer t peer.node
  pub keeps : AllByRecursion (KeepsTo peer) more

-- ---- line by line

abbrev pub introduced_at : Option ℕ → HandshakeStage
introduced_at None = Refused
introduced_at (Some place) = Introduced place

abbrev pub still_known : ℕ → Option ℕ → HandshakeStage
still_known known None = Refused
still_known known (Some place) = if place == known then Known place else Refused

abbrev pub after_first : Terms → PeerLine → HandshakeStage
after_first t (Word word) = if same_name word t.word then Trusted else Refused
after_first t (Hello life version) = Refused
after_first t (Head head) = Refused
after_first t (Change change) = Refused
after_first t (Ack ack) = Refused

abbrev pub after_second : Terms → PeerLine → HandshakeStage
after_second t (Word word) = Refused
after_second t (Hello life version) = introduced_at (index_of t life.node)
after_second t (Head head) = Refused
after_second t (Change change) = Refused
after_second t (Ack ack) = Refused

abbrev pub after_more : Terms → ℕ → PeerLine → HandshakeStage
after_more t place (Word word) = Refused
after_more t place (Hello life version) = still_known place (index_of t life.node)
after_more t place (Head head) = Known place
after_more t place (Change change) = Known place
after_more t place (Ack ack) = Known place

-- the stage after a line. None stands for a line that can't be read
abbrev pub after : Terms → HandshakeStage → Option PeerLine → HandshakeStage
after t stage None = Refused
after t Silent (Some line) = after_first t line
after t Trusted (Some line) = after_second t line
after t (Introduced place) (Some line) = after_more t place line
after t (Known place) (Some line) = after_more t place line
after t Refused (Some line) = Refused

-- the stage after lines
abbrev pub after_all : Terms → HandshakeStage → List (Option PeerLine) → HandshakeStage
after_all t stage [] = stage
after_all t stage (line ∷ lines) = after_all t (after t stage line) lines

-- what is done because of the line that led to a stage
abbrev pub action : Side → HandshakeStage → Action
action side Silent = Wait
action side Trusted = Wait
action (Opener to) (Introduced place) = HandUp place
action Acceptor (Introduced place) = GreetAndHandUp place
action side (Known place) = HandUp place
action side Refused = Close

-- the place of the peer that is greeted before any line came
abbrev pub greeted_first : Side → Option ℕ
greeted_first (Opener to) = Some to
greeted_first Acceptor = None

-- the place to whose link the line is handed up
abbrev pub handed_to : Action → Option ℕ
handed_to (HandUp place) = Some place
handed_to (GreetAndHandUp place) = Some place
handed_to _ = None

-- whether the own word and hello go out
abbrev pub greets : Action → Bool
greets (GreetAndHandUp place) = true
greets _ = false

-- what is done because of the last of the lines of a connection
abbrev pub last_action : Terms → Side → List (Option PeerLine) → Action
last_action t side lines = action side (after_all t Silent lines)
