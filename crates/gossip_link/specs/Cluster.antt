-- A cluster: nodes that make changes, take them, send each other deltas and restart, over every
-- schedule. Each node speaks a version of its own, and may say hello in any. The network is all that was ever sent, of which anything may come, again and in any order, or never.
use Rattle.std.specs.Prelude.{ℕ, ◌≡◌, ⊤, Bool, false, ◌==◌, Option, Some, None, List, [], ◌∷◌, ◌++◌, length, take, slice_get, nat_le, if◌then◌else◌}
use Rattle.std.specs.List.{list_any}
use Rattle.chat_change.specs.declared.change.Change.{Change}
use Rattle.chat_history.specs.History.{History, norm, changes_of}
use Rattle.chat_history.specs.Numbering.{delta}
use Rattle.cluster_directory.specs.Life.{Life}
use Rattle.peer_lines.specs.Packet.{Hello, Packet, Ack}
use Rattle.cluster_directory.specs.Names.{same_name}
use Rattle.cluster_directory.specs.declared.version.Version.{Version}
use Rattle.gossip_link.specs.Peer.{Peer, unheard, after_hello, packet_of, after_packet, packet_is_mine, ack_of, after_ack}

-- a node in its present life
pub record Node : Type 0 where
  pub incarnation : ℕ
  pub earlier : List ℕ  -- the incarnations of its earlier lives
  pub version : Version  -- the version that it speaks
  pub history : History  -- what it holds
  pub taken : List Change  -- what it took
  pub peers : List ℕ → Peer  -- what it knows of each peer, by name
  pub used : List ℕ → ℕ  -- how many changes a delta was last made of, by the peer that it was sent to

-- changes, and the node that made them
pub record Made : Type 0 where
  pub by : List ℕ
  pub changes : List Change

pub record World : Type 0 where
  pub nodes : List ℕ → Node  -- by name
  pub made : List Made  -- all that was ever made
  pub hellos : List Hello  -- all that were ever sent, as the packets and the acknowledgements
  pub packets : List Packet
  pub acks : List Ack

-- What may happen next. A loss is a message that never comes.
--   Make          a node makes changes
--   Take          it takes the first so many of a list that it made
--   Ask           it is asked something
--   Greet         it says hello, in its own version or another
--   Hello_comes   a hello reaches its link with a peer
--   Send          it sends a peer the delta of the first so many changes that it took
--   Packet_comes  a packet reaches its link with a peer
--   Part_comes    so does one of which it takes no more than so many changes
--   Ack_comes     an acknowledgement reaches its link with a peer
--   Restart       it starts again, in another incarnation, and perhaps in another version
pub data ClusterEvent : Type 0 where
  Make : (node : List ℕ) (changes : List Change) → ClusterEvent
  Take : (node : List ℕ) (which count : ℕ) → ClusterEvent
  Ask : (node : List ℕ) → ClusterEvent
  Greet : (node : List ℕ) (version : Version) → ClusterEvent
  Hello_comes : (node peer : List ℕ) (which : ℕ) → ClusterEvent
  Send : (node peer : List ℕ) (count : ℕ) → ClusterEvent
  Packet_comes : (node peer : List ℕ) (which : ℕ) → ClusterEvent
  Part_comes : (node peer : List ℕ) (which count : ℕ) → ClusterEvent
  Ack_comes : (node peer : List ℕ) (which : ℕ) → ClusterEvent
  Restart : (node : List ℕ) (incarnation : ℕ) (version : Version) → ClusterEvent

-- ---- parts of a world

-- a function that is changed at one name
abbrev pub with_value : {A : Type 0} → (List ℕ → A) → List ℕ → A → List ℕ → A
with_value f name x other = if same_name name other then x else f other

abbrev pub life : List ℕ → Node → Life
life name x = record { node = name; incarnation = x.incarnation }

abbrev pub with_node : World → List ℕ → Node → World
with_node w name x = record w { nodes = with_value w.nodes name x }

abbrev pub with_peer : Node → List ℕ → Peer → Node
with_peer x name p = record x { peers = with_value x.peers name p }

abbrev pub with_used : Node → List ℕ → ℕ → Node
with_used x name count = record x { used = with_value x.used name count }

-- a node that takes further changes
abbrev pub with_taken : Node → List Change → Node
with_taken x changes = record x {
  history = norm (changes_of x.history ++ changes);
  taken = x.taken ++ changes;
}

-- a node that starts: it has taken nothing and knows no life
abbrev pub new_node : ℕ → List ℕ → Version → Node
new_node incarnation earlier version = record {
  incarnation = incarnation;
  earlier = earlier;
  version = version;
  history = norm [];
  taken = [];
  peers = λ _. unheard;
  used = λ _. 0;
}

-- ---- what happens

abbrev pub take_made : World → List ℕ → ℕ → Option Made → World
take_made w name count None = w
take_made w name count (Some m) =
    if same_name m.by name
    then with_node w name (with_taken (w.nodes name) (take count m.changes))
    else w

abbrev pub hear : World → List ℕ → List ℕ → Option Hello → World
hear w name peer None = w
hear w name peer (Some hello) =
    let x = w.nodes name in
    with_node w name
    (with_peer x peer (after_hello peer (x.peers peer) hello.life hello.version))

abbrev pub with_packet : World → List ℕ → List ℕ → ℕ → Option Packet → World
with_packet w name peer count None = w
with_packet w name peer count (Some p) =
    let x = w.nodes name in
    record w {
      nodes = with_value w.nodes name
          (with_used (with_peer x peer (after_packet (x.peers peer) p)) peer count);
      packets = p ∷ w.packets;
    }

-- a delta is made of the first changes that were taken, no fewer than were used before in this life
-- towards the peer. Towards a life of a lower version there is none
abbrev pub send : World → List ℕ → List ℕ → List Change → World
send w name peer first =
    let x = w.nodes name in
    let p = x.peers peer in
    if nat_le (x.used peer) (length first)
    then with_packet w name peer (length first)
    (packet_of x.version (life name x) peer p.heard (delta 0 first p.acked))
    else w

abbrev pub packet_comes : World → List ℕ → List ℕ → Option Packet → World
packet_comes w name peer None = w
packet_comes w name peer (Some p) =
    let x = w.nodes name in
    if packet_is_mine (life name x) peer p
    then record w {
      nodes = with_value w.nodes name (with_taken x p.changes);
      acks = ack_of (life name x) p ∷ w.acks;
    }
    else w

-- a taking that was refused took the first changes and sends no acknowledgement
abbrev pub part_comes : World → List ℕ → List ℕ → ℕ → Option Packet → World
part_comes w name peer count None = w
part_comes w name peer count (Some p) =
    let x = w.nodes name in
    if packet_is_mine (life name x) peer p
    then with_node w name (with_taken x (take count p.changes))
    else w

abbrev pub ack_comes : World → List ℕ → List ℕ → Option Ack → World
ack_comes w name peer None = w
ack_comes w name peer (Some a) =
    let x = w.nodes name in
    with_node w name (with_peer x peer (after_ack (life name x) peer (x.peers peer) a))

abbrev pub happens : World → ClusterEvent → World
happens w (Make name changes) =
    record w { made = record { by = name; changes = changes } ∷ w.made }
happens w (Take name which count) = take_made w name count (slice_get w.made which)
happens w (Ask name) = w
happens w (Greet name version) =
    record w { hellos = record { life = life name (w.nodes name); version = version } ∷ w.hellos }
happens w (Hello_comes name peer which) = hear w name peer (slice_get w.hellos which)
happens w (Send name peer count) = send w name peer (take count (w.nodes name).taken)
happens w (Packet_comes name peer which) = packet_comes w name peer (slice_get w.packets which)
happens w (Part_comes name peer which count) =
    part_comes w name peer count (slice_get w.packets which)
happens w (Ack_comes name peer which) = ack_comes w name peer (slice_get w.acks which)
happens w (Restart name incarnation version) =
    let x = w.nodes name in
    with_node w name (new_node incarnation (x.incarnation ∷ x.earlier) version)

-- a whole schedule
abbrev pub run : List ClusterEvent → World → World
run [] w = w
run (e ∷ es) w = run es (happens w e)

-- each node in its first life, by these incarnations and versions
abbrev pub start : (List ℕ → ℕ) → (List ℕ → Version) → World
start incarnations versions = record {
  nodes = λ name. new_node (incarnations name) [] (versions name);
  made = [];
  hellos = [];
  packets = [];
  acks = [];
}

-- ---- the premise: the incarnations of a node differ

-- whether a node has, or had, an incarnation
abbrev pub has_lived : Node → ℕ → Bool
has_lived x i = list_any (λ j. j == i) (x.incarnation ∷ x.earlier)

abbrev pub IsFresh : World → ClusterEvent → Type 0
IsFresh w (Make name changes) = ⊤
IsFresh w (Take name which count) = ⊤
IsFresh w (Ask name) = ⊤
IsFresh w (Greet name version) = ⊤
IsFresh w (Hello_comes name peer which) = ⊤
IsFresh w (Send name peer count) = ⊤
IsFresh w (Packet_comes name peer which) = ⊤
IsFresh w (Part_comes name peer which count) = ⊤
IsFresh w (Ack_comes name peer which) = ⊤
IsFresh w (Restart name incarnation version) = has_lived (w.nodes name) incarnation ≡ false

-- each restart has an incarnation that the node never had before
abbrev pub LivesDiffer : List ClusterEvent → World → Type 0
LivesDiffer [] w = ⊤
LivesDiffer (e ∷ es) w = IsFresh w e × LivesDiffer es (happens w e)
