-- What isn't a restart of a node leaves its lives as they are.
use Rattle.std.proofs.Common.{◌≡◌, ◌≤◌, ℕ, true, false, Bool, Option, Some, None, List, [], ◌∷◌, refl, sym, ◌∙◌, ap, subst, cond, take, length}
use Rattle.std.specs.Prelude.{nat_le, slice_get}
use Rattle.std.specs.List.{AllByRecursion}
use Rattle.chat_history.specs.Numbering.{delta}
use Rattle.chat_change.specs.declared.change.Change.{Change}
use Rattle.cluster_directory.specs.Names.{same_name}
use Rattle.cluster_directory.proofs.CallerLemmas.{same_name_is}
use Rattle.peer_lines.specs.Packet.{Hello, Packet, Ack}
use Rattle.gossip_link.specs.Peer.{packet_is_mine, packet_of}
use Rattle.gossip_link.specs.Cluster.{Node, World, Made, ClusterEvent, Make, Take, Ask, Greet, Hello_comes, Send, Packet_comes, Part_comes, Ack_comes, Restart, with_value, with_node, with_taken, life, take_made, hear, with_packet, send, packet_comes, part_comes, ack_comes, happens, run}
use Rattle.gossip_link.proofs.CallerLemmas.{apart, changed_there}
use Rattle.keeper_laws.specs.Restart.{lives_of, HasLivedUpTo, IsAnother}

-- the lives of the node are the same in both worlds
abbrev Same : List ℕ → World → World → Type 0
Same name w v = lives_of (v.nodes name) ≡ lives_of (w.nodes name)

at : (f : List ℕ → Node) (node name : List ℕ) (x : Node) → lives_of x ≡ lives_of (f node)
    → lives_of (with_value f node x name) ≡ lives_of (f name)
at f node name x e =
    elim (same_name node name) as (λ t. same_name node name ≡ t → lives_of (cond t x (f name)) ≡ lives_of (f name)) [
      | true ↦ λ s. e ∙ ap (λ k. lives_of (f k)) (same_name_is node name s)
      | false ↦ λ _. refl
    ] refl

either : (name : List ℕ) (w v : World) (b : Bool) → Same name w v → Same name w (cond b v w)
either name w v true s = s
either name w v false s = refl

taken : (w : World) (name node : List ℕ) (count : ℕ) (m : Option Made) → Same name w (take_made w node count m)
taken w name node count None = refl
taken w name node count (Some m) =
    let x = with_taken (w.nodes node) (take count m.changes) in
    either name w (with_node w node x) (same_name m.by node) (at w.nodes node name x refl)

heard : (w : World) (name node peer : List ℕ) (h : Option Hello) → Same name w (hear w node peer h)
heard w name node peer None = refl
heard w name node peer (Some h) = at w.nodes node name _ refl

packed : (w : World) (name node peer : List ℕ) (count : ℕ) (p : Option Packet) → Same name w (with_packet w node peer count p)
packed w name node peer count None = refl
packed w name node peer count (Some p) = at w.nodes node name _ refl

sent : (w : World) (name node peer : List ℕ) (first : List Change) → Same name w (send w node peer first)
sent w name node peer first =
    let x = w.nodes node in
    let p = packet_of x.version (life node x) peer (x.peers peer).heard (delta 0 first (x.peers peer).acked) in
    either name w (with_packet w node peer (length first) p) (nat_le (x.used peer) (length first)) (packed w name node peer (length first) p)

came : (w : World) (name node peer : List ℕ) (p : Option Packet) → Same name w (packet_comes w node peer p)
came w name node peer None = refl
came w name node peer (Some p) =
    either name w _ (packet_is_mine (life node (w.nodes node)) peer p) (at w.nodes node name (with_taken (w.nodes node) p.changes) refl)

came_in_part : (w : World) (name node peer : List ℕ) (count : ℕ) (p : Option Packet) → Same name w (part_comes w node peer count p)
came_in_part w name node peer count None = refl
came_in_part w name node peer count (Some p) =
    let x = with_taken (w.nodes node) (take count p.changes) in
    either name w (with_node w node x) (packet_is_mine (life node (w.nodes node)) peer p) (at w.nodes node name x refl)

answered : (w : World) (name node peer : List ℕ) (a : Option Ack) → Same name w (ack_comes w node peer a)
answered w name node peer None = refl
answered w name node peer (Some a) = at w.nodes node name _ refl

same : (w : World) (name : List ℕ) (e : ClusterEvent) → IsAnother name e → Same name w (happens w e)
same w name (Make node changes) is = refl
same w name (Take node which count) is = taken w name node count (slice_get w.made which)
same w name (Ask node) is = refl
same w name (Greet node version) is = refl
same w name (Hello_comes node peer which) is = heard w name node peer (slice_get w.hellos which)
same w name (Send node peer count) is = sent w name node peer (take count (w.nodes node).taken)
same w name (Packet_comes node peer which) is = came w name node peer (slice_get w.packets which)
same w name (Part_comes node peer which count) is = came_in_part w name node peer count (slice_get w.packets which)
same w name (Ack_comes node peer which) is = answered w name node peer (slice_get w.acks which)
same w name (Restart node incarnation version) is = ap lives_of (changed_there w.nodes node name _ (apart node name is))

pub lives_stay : (w : World) (name : List ℕ) (n : ℕ) (events : List ClusterEvent) → HasLivedUpTo n (w.nodes name)
    → AllByRecursion (IsAnother name) events → HasLivedUpTo n ((run events w).nodes name)
lives_stay w name n [] up all = up
lives_stay w name n (e ∷ es) up all =
    lives_stay (happens w e) name n es (subst (AllByRecursion (λ i. i ≤ n)) (sym (same w name e all.0)) up) all.1
