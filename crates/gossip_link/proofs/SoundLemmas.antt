-- What holds of a cluster whatever happened: of its nodes, of their links, and of all that was ever sent.
use Rattle.std.proofs.Common.{◌≡◌, ℕ, ◌≤◌, Bool, true, false, ◌||◌, Some, List, [], ◌∷◌, ◌++◌, length, refl, sym, ◌∙◌, ap, subst, arith}
use Rattle.std.proofs.lemmas.Bool.{false≢true}
use Rattle.std.proofs.lemmas.Bool.Decides.{nat_tests}
use Rattle.std.proofs.lemmas.List.{append-nil}
use Rattle.std.proofs.lemmas.List.Elements.{All-weaker}
use Rattle.std.specs.List.{All, list_any}
use Rattle.std.specs.Prelude.{◌==◌}
use Rattle.chat_change.specs.declared.change.Change.{Change}
use Rattle.chat_history.specs.History.{norm}
use Rattle.chat_history.specs.Numbering.{front, delta}
use Rattle.chat_history.specs.UpTo.{IncludesUpTo}
use Rattle.chat_history.proofs.CallerLemmas.{UpTo-more}
use Rattle.cluster_directory.specs.Life.{Life}
use Rattle.peer_lines.specs.Packet.{Hello, Packet, Ack}
use Rattle.cluster_directory.specs.declared.version.Version.{Version}
use Rattle.gossip_link.specs.declared.link.KnownLife.{KnownLife}
use Rattle.gossip_link.specs.Peer.{Peer}
use Rattle.gossip_link.specs.Cluster.{Node, Made, World, with_value, life, with_node, new_node, has_lived}
use Rattle.gossip_link.specs.Promises.{ComesFrom}
use Rattle.gossip_link.proofs.NameLemmas.{at_each, Begins, Begins-more}

abbrev pub Nodes : Type 0
Nodes = List ℕ → Node

-- a life that a node has, or had
abbrev pub Lived : Nodes → Life → Type 0
Lived nodes l = has_lived (nodes l.node) l.incarnation ≡ true

-- the life that its node has now
abbrev pub IsPresent : Nodes → Life → Type 0
IsPresent nodes l = (nodes l.node).incarnation ≡ l.incarnation

-- the taker is up to date, to a number, with a beginning of what the holder took: each of the two in this life, if it
-- still has it
pub record Reached (nodes : Nodes) (holder taker : Life) (first : List Change) (upto : ℕ) : Type 0 where
  pub within : upto ≤ front 0 first
  pub begins : IsPresent nodes holder → Begins first (nodes holder.node).taken × (length first ≤ (nodes holder.node).used taker.node)
  pub includes : IsPresent nodes taker → IncludesUpTo (nodes taker.node).taken 0 first upto

-- a node's knowledge of a peer
abbrev pub LinkIsSound : Nodes → Life → List ℕ → Peer → Type 0
LinkIsSound nodes me peer p =
    (known : KnownLife) → p.heard ≡ Some known →
    Lived nodes (record { node = peer; incarnation = known.incarnation })
    × ((first : List Change) × Reached nodes me (record { node = peer; incarnation = known.incarnation }) first p.acked)

-- a hello of a life that its node has, or had
abbrev pub HelloIsSound : Nodes → Hello → Type 0
HelloIsSound nodes hello = Lived nodes hello.life

pub record PacketIsSound (nodes : Nodes) (made : List Made) (p : Packet) : Type 0 where
  pub sender : Lived nodes p.sender
  pub receiver : Lived nodes p.receiver
  pub comes : All (ComesFrom made) p.changes
  pub first : List Change
  pub reached : Reached nodes p.sender p.receiver first p.from
  pub changes : p.changes ≡ (delta 0 first p.from).changes
  pub to : p.to ≡ (delta 0 first p.from).to

pub record AckIsSound (nodes : Nodes) (a : Ack) : Type 0 where
  pub sender : Lived nodes a.sender
  pub receiver : Lived nodes a.receiver
  pub first : List Change
  pub reached : Reached nodes a.receiver a.sender first a.upto

pub record IsSound (w : World) : Type 0 where
  pub holds : (name : List ℕ) → (w.nodes name).history ≡ norm (w.nodes name).taken
  pub comes : (name : List ℕ) → All (ComesFrom w.made) (w.nodes name).taken
  pub uses : (name peer : List ℕ) → (w.nodes name).used peer ≤ length (w.nodes name).taken
  pub links : (name peer : List ℕ) → LinkIsSound w.nodes (life name (w.nodes name)) peer ((w.nodes name).peers peer)
  pub hellos : All (HelloIsSound w.nodes) w.hellos
  pub packets : All (PacketIsSound w.nodes w.made) w.packets
  pub acks : All (AckIsSound w.nodes) w.acks

-- ---- later nodes

-- a node later: a life that it had it still had, and if it still has it, it took more, and used no less
abbrev pub GoesOn : Node → Node → Type 0
GoesOn old new =
    (i : ℕ) → has_lived old i ≡ true →
    (has_lived new i ≡ true) × (new.incarnation ≡ i → (old.incarnation ≡ i) × ((more : List Change) × (new.taken ≡ old.taken ++ more)) × ((peer : List ℕ) → old.used peer ≤ new.used peer))

abbrev pub GoOn : Nodes → Nodes → Type 0
GoOn old new = (name : List ℕ) → GoesOn (old name) (new name)

pub goes_on_itself : (x : Node) → GoesOn x x
goes_on_itself x i h = (h, λ e. (e, ([], sym (append-nil x.taken)), λ peer. omega arith))

pub go_on : (nodes : Nodes) (name : List ℕ) (x : Node) → GoesOn (nodes name) x → GoOn nodes (with_value nodes name x)
go_on nodes name x h = at_each nodes name x (λ other y. GoesOn (nodes other) y) h (λ other. goes_on_itself (nodes other))

-- a node that keeps its life
pub same_life_goes_on : (old new : Node) → old.incarnation ≡ new.incarnation → old.earlier ≡ new.earlier → (more : List Change) → new.taken ≡ old.taken ++ more → ((peer : List ℕ) → old.used peer ≤ new.used peer) → GoesOn old new
same_life_goes_on old new p q more e used i h = (
  (λ j. list_any (λ k. k == i) (sym p j ∷ sym q j)) ∙ h,
  λ is. (p ∙ is, (more, e), used),
)

or_right : (a b : Bool) → b ≡ true → (a || b) ≡ true
or_right true b e = refl
or_right false b e = e

lives_now : (x : Node) → has_lived x x.incarnation ≡ true
lives_now x = let e : (x.incarnation == x.incarnation) ≡ true = grind (arith, nat_tests) in ap (λ b. b || list_any (λ j. j == x.incarnation) x.earlier) e

pub Lived-now : (nodes : Nodes) (name : List ℕ) → Lived nodes (life name (nodes name))
Lived-now nodes name = lives_now (nodes name)

-- a node that restarts in a life that it never had
pub restart_goes_on : (old : Node) (i : ℕ) (version : Version) → has_lived old i ≡ false → GoesOn old (new_node i (old.incarnation ∷ old.earlier) version)
restart_goes_on old i version fresh j h = (
  or_right (i == j) (has_lived old j) h,
  λ is. absurd (false≢true (sym fresh ∙ subst (λ k. has_lived old k ≡ true) (sym is) h)),
)

module _ (old new : Nodes) (on : GoOn old new) where
  pub Lived-later : (l : Life) → Lived old l → Lived new l
  Lived-later l h = (on l.node l.incarnation h).0

  pub Reached-later : (holder taker : Life) (first : List Change) (upto : ℕ) → Lived old holder → Lived old taker → Reached old holder taker first upto → Reached new holder taker first upto
  Reached-later holder taker first upto lh lt r = record {
    within = r.within;
    begins = λ now.
        let h = (on holder.node holder.incarnation lh).1 now in
        let before = r.begins h.0 in
        let fits = before.1 in
        let grew = h.2 taker.node in
        (Begins-more first (old holder.node).taken h.1.0 (new holder.node).taken before.0 h.1.1, omega (arith, fits, grew));
    includes = λ now.
        let h = (on taker.node taker.incarnation lt).1 now in
        subst (λ cs. IncludesUpTo cs 0 first upto) (sym h.1.1) (UpTo-more 0 upto (old taker.node).taken h.1.0 first (r.includes h.0));
  }

  pub LinkIsSound-later : (me : Life) (peer : List ℕ) (p : Peer) → Lived old me → LinkIsSound old me peer p → LinkIsSound new me peer p
  LinkIsSound-later me peer p lived h known e =
      let them : Life = record { node = peer; incarnation = known.incarnation } in
      let there = h known e in
      (Lived-later them there.0, (there.1.0, Reached-later me them there.1.0 p.acked lived there.0 there.1.1))

  pub PacketIsSound-later : (made : List Made) (p : Packet) → PacketIsSound old made p → PacketIsSound new made p
  PacketIsSound-later made p h = record {
    sender = Lived-later p.sender h.sender;
    receiver = Lived-later p.receiver h.receiver;
    comes = h.comes;
    first = h.first;
    reached = Reached-later p.sender p.receiver h.first p.from h.sender h.receiver h.reached;
    changes = h.changes;
    to = h.to;
  }

  pub AckIsSound-later : (a : Ack) → AckIsSound old a → AckIsSound new a
  AckIsSound-later a h = record {
    sender = Lived-later a.sender h.sender;
    receiver = Lived-later a.receiver h.receiver;
    first = h.first;
    reached = Reached-later a.receiver a.sender h.first a.upto h.receiver h.sender h.reached;
  }

-- ---- a world in which one node goes on

pub IsSound-node : (w : World) (name : List ℕ) (x : Node) → IsSound w → GoesOn (w.nodes name) x → x.history ≡ norm x.taken → All (ComesFrom w.made) x.taken → ((peer : List ℕ) → x.used peer ≤ length x.taken) → ((peer : List ℕ) → LinkIsSound (with_value w.nodes name x) (life name x) peer (x.peers peer)) → IsSound (with_node w name x)
IsSound-node w name x s on holds comes uses links =
    let new = with_value w.nodes name x in
    let all_on = go_on w.nodes name x on in
    record {
      holds = at_each w.nodes name x (λ other y. y.history ≡ norm y.taken) holds s.holds;
      comes = at_each w.nodes name x (λ other y. All (ComesFrom w.made) y.taken) comes s.comes;
      uses = at_each w.nodes name x (λ other y. (peer : List ℕ) → y.used peer ≤ length y.taken) uses s.uses;
      links = at_each w.nodes name x (λ other y. (peer : List ℕ) → LinkIsSound new (life other y) peer (y.peers peer)) links
          (λ other peer. LinkIsSound-later w.nodes new all_on (life other (w.nodes other)) peer ((w.nodes other).peers peer) (Lived-now w.nodes other) (s.links other peer));
      hellos = All-weaker (HelloIsSound w.nodes) (HelloIsSound new) (λ hello. Lived-later w.nodes new all_on hello.life) w.hellos s.hellos;
      packets = All-weaker (PacketIsSound w.nodes w.made) (PacketIsSound new w.made) (PacketIsSound-later w.nodes new all_on w.made) w.packets s.packets;
      acks = All-weaker (AckIsSound w.nodes) (AckIsSound new) (AckIsSound-later w.nodes new all_on) w.acks s.acks;
    }
