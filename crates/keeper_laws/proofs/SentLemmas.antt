-- Whatever was taken or sent comes from what some node made.
use Rattle.std.proofs.Common.{◌≡◌, ℕ, zero, suc, arith, true, false, Bool, Option, Some, None, List, [], ◌∷◌, cond, take, length, subst, ⊎_elim}
use Rattle.std.specs.Prelude.{Contains, nat_le, slice_get, ◌||◌, ◌==◌}
use Rattle.std.specs.List.{All}
use Rattle.std.specs.Option.{IfSome}
use Rattle.std.proofs.lemmas.List.Elements.{All-nil, All-cons, All-tail, All-append, All-take, All-weaker, All-contains, All-contains_itself, Contains-append_right}
use Rattle.std.specs.FinMap.{get}
use Rattle.chat_change.specs.Key.{Key}
use Rattle.chat_change.specs.declared.change.Change.{Change}
use Rattle.chat_history.specs.History.{norm}
use Rattle.chat_history.specs.Numbering.{Delta, delta}
use Rattle.chat_history.proofs.CallerLemmas.{delta_all}
use Rattle.cluster_directory.specs.Names.{same_name}
use Rattle.cluster_directory.specs.Version.{is_lower}
use Rattle.cluster_directory.specs.declared.version.Version.{Version}
use Rattle.cluster_directory.specs.Life.{Life}
use Rattle.peer_lines.specs.Packet.{Hello, Packet, Ack}
use Rattle.gossip_link.specs.declared.link.KnownLife.{KnownLife}
use Rattle.gossip_link.specs.Peer.{packet_is_mine, packet_of}
use Rattle.gossip_link.specs.Cluster.{Node, World, Made, ClusterEvent, Make, Take, Ask, Greet, Hello_comes, Send, Packet_comes, Part_comes, Ack_comes, Restart, with_value, with_node, with_taken, life, take_made, hear, with_packet, send, packet_comes, part_comes, ack_comes, happens, run, start}
use Rattle.gossip_link.specs.Promises.{IsReached, ComesFrom}
use Rattle.keeper_laws.proofs.MadeLemmas.{comes_made, through}
use Rattle.keeper_laws.proofs.StemLemmas.{HeldWasMade, pieces_come}
use Rattle.keeper_laws.specs.Recovered.{MayCome}

abbrev AllCome : List Made → List Change → Type 0
AllCome made changes = All (ComesFrom made) changes

abbrev PacketComes : List Made → Packet → Type 0
PacketComes made p = AllCome made p.changes

record AllWasMade (w : World) : Type 0 where
  taken : (name : List ℕ) → AllCome w.made (w.nodes name).taken
  sent : All (PacketComes w.made) w.packets

-- what a list has at a place, if it has one
got : {A : Type 0} (P : A → Type 0) (Q : Option A → Type 0) (xs : List A) (i : ℕ) → All P xs → Q None → ((x : A) → P x → Q (Some x)) → Q (slice_get xs i)
got {A = A} P Q [] i all none some = none
got {A = A} P Q (x ∷ xs) zero all none some = some x (all 0 x (omega arith))
got {A = A} P Q (x ∷ xs) (suc i) all none some = got P Q xs i (All-tail P x xs all) none some

either : (w v : World) (b : Bool) → AllWasMade w → AllWasMade v → AllWasMade (cond b v w)
either w v true s t = t
either w v false s t = s

-- at one name another node
placed : (made : List Made) (f : List ℕ → Node) (node : List ℕ) (x : Node) → AllCome made x.taken → ((name : List ℕ) → AllCome made (f name).taken)
    → (name : List ℕ) → AllCome made (with_value f node x name).taken
placed made f node x all every name =
    elim (same_name node name) as (λ t. AllCome made (cond t x (f name)).taken) [
      | true ↦ all
      | false ↦ every name
    ]

module _ (law : HeldWasMade) where
  made_more : (w : World) (m : Made) (c : Change) → ComesFrom w.made c → ComesFrom (m ∷ w.made) c
  made_more w m = through w.made (m ∷ w.made) (λ d h. comes_made (m ∷ w.made) d (h.0, Contains-append_right (m ∷ []) w.made h.0 h.1, h.2))

  makes : (w : World) (m : Made) → AllWasMade w → AllWasMade (record w { made = m ∷ w.made })
  makes w m s = record {
    taken = λ name. All-weaker (ComesFrom w.made) (ComesFrom (m ∷ w.made)) (made_more w m) (w.nodes name).taken (s.taken name);
    sent = All-weaker (PacketComes w.made) (PacketComes (m ∷ w.made))
        (λ p h. All-weaker (ComesFrom w.made) (ComesFrom (m ∷ w.made)) (made_more w m) p.changes h) w.packets s.sent;
  }

  -- another node at a name, which took what comes from what was made
  changes : (w : World) (node : List ℕ) (x : Node) → AllWasMade w → AllCome w.made x.taken → AllWasMade (with_node w node x)
  changes w node x s all = record { taken = placed w.made w.nodes node x all s.taken; sent = s.sent }

  takes : (w : World) (node : List ℕ) (more : List Change) → AllWasMade w → AllCome w.made more → AllWasMade (with_node w node (with_taken (w.nodes node) more))
  takes w node more s all = changes w node (with_taken (w.nodes node) more) s (All-append (ComesFrom w.made) (w.nodes node).taken more (s.taken node) all)

  made_here : (made : List Made) (m : Made) → Contains made m → AllCome made m.changes
  made_here made m h = All-weaker (Contains m.changes) (ComesFrom made) (λ c is. comes_made made c (m, h, is)) m.changes (All-contains_itself m.changes)

  taken_made : (w : World) (node : List ℕ) (which count : ℕ) → AllWasMade w → AllWasMade (take_made w node count (slice_get w.made which))
  taken_made w node which count s =
      got (Contains w.made) (λ o. AllWasMade (take_made w node count o)) w.made which (All-contains_itself w.made) s
      (λ m h. either w _ (same_name m.by node) s (takes w node (take count m.changes) s (All-take (ComesFrom w.made) count m.changes (made_here w.made m h))))

  heard : (w : World) (node peer : List ℕ) (h : Option Hello) → AllWasMade w → AllWasMade (hear w node peer h)
  heard w node peer None s = s
  heard w node peer (Some h) s = changes w node _ s (s.taken node)

  answered : (w : World) (node peer : List ℕ) (a : Option Ack) → AllWasMade w → AllWasMade (ack_comes w node peer a)
  answered w node peer None s = s
  answered w node peer (Some a) s = changes w node _ s (s.taken node)

  came : (w : World) (node peer : List ℕ) (which : ℕ) → AllWasMade w → AllWasMade (packet_comes w node peer (slice_get w.packets which))
  came w node peer which s =
      got (PacketComes w.made) (λ o. AllWasMade (packet_comes w node peer o)) w.packets which s.sent s
      (λ p all. either w _ (packet_is_mine (life node (w.nodes node)) peer p) s
      (record { taken = (takes w node p.changes s all).taken; sent = s.sent }))

  came_in_part : (w : World) (node peer : List ℕ) (which count : ℕ) → AllWasMade w → AllWasMade (part_comes w node peer count (slice_get w.packets which))
  came_in_part w node peer which count s =
      got (PacketComes w.made) (λ o. AllWasMade (part_comes w node peer count o)) w.packets which s.sent s
      (λ p all. either w _ (packet_is_mine (life node (w.nodes node)) peer p) s
      (takes w node (take count p.changes) s (All-take (ComesFrom w.made) count p.changes all)))

  -- a packet has the changes of its delta
  packed : (made : List Made) (own : Version) (me : Life) (name : List ℕ) (known : Option KnownLife) (d : Delta) → AllCome made d.changes → IfSome (packet_of own me name known d) (PacketComes made)
  packed made own me name None d all = tt
  packed made own me name (Some known) d all =
      elim (is_lower known.version own || (length d.changes == 0)) as (λ b. IfSome (cond b None (Some (record {
        sender = me;
        receiver = record { node = name; incarnation = known.incarnation };
        from = d.from;
        to = d.to;
        changes = d.changes;
      }))) (PacketComes made)) [
        | true ↦ tt
        | false ↦ all
      ]

  put_out : (w : World) (node peer : List ℕ) (count : ℕ) (p : Option Packet) → AllWasMade w → IfSome p (PacketComes w.made) → AllWasMade (with_packet w node peer count p)
  put_out w node peer count None s all = s
  put_out w node peer count (Some p) s all = record {
    taken = placed w.made w.nodes node _ (s.taken node) s.taken;
    sent = All-cons (PacketComes w.made) p w.packets all s.sent;
  }

  sent_first : (w : World) (node peer : List ℕ) (count : ℕ) → AllWasMade w → AllWasMade (send w node peer (take count (w.nodes node).taken))
  sent_first w node peer count s =
      let x = w.nodes node in
      let first = take count x.taken in
      let d = delta 0 first (x.peers peer).acked in
      let first_come : AllCome w.made first = All-take (ComesFrom w.made) count x.taken (s.taken node) in
      let pieces : (k : Key) (c : Change) → get (norm first) k ≡ Some c → ComesFrom w.made c = λ k c is. pieces_come law x.version w.made first (λ e h. All-contains (ComesFrom w.made) first e first_come h) c (k, is) in
      let p = packet_of x.version (life node x) peer (x.peers peer).heard d in
      either w (with_packet w node peer (length first) p) (nat_le (x.used peer) (length first)) s
      (put_out w node peer (length first) p s (packed w.made x.version (life node x) peer (x.peers peer).heard d (delta_all 0 (x.peers peer).acked first (ComesFrom w.made) pieces)))

  next : (w : World) (e : ClusterEvent) → AllWasMade w → AllWasMade (happens w e)
  next w (Make node changes') s = makes w (record { by = node; changes = changes' }) s
  next w (Take node which count) s = taken_made w node which count s
  next w (Ask node) s = s
  next w (Greet node version) s = record { taken = s.taken; sent = s.sent }
  next w (Hello_comes node peer which) s = heard w node peer (slice_get w.hellos which) s
  next w (Send node peer count) s = sent_first w node peer count s
  next w (Packet_comes node peer which) s = came w node peer which s
  next w (Part_comes node peer which count) s = came_in_part w node peer which count s
  next w (Ack_comes node peer which) s = answered w node peer (slice_get w.acks which) s
  next w (Restart node incarnation version) s = changes w node _ s (All-nil (ComesFrom w.made))

  on : (events : List ClusterEvent) (w : World) → AllWasMade w → AllWasMade (run events w)
  on [] w s = s
  on (e ∷ es) w s = on es (happens w e) (next w e s)

  pub may_come : (w : World) → IsReached w → (c : Change) → MayCome w c → ComesFrom w.made c
  may_come w r c is =
      let begun : AllWasMade (start r.incarnations r.versions) = record { taken = λ name. All-nil (ComesFrom []); sent = All-nil (PacketComes []) } in
      let s = subst AllWasMade r.ends (on r.events (start r.incarnations r.versions) begun) in
      ⊎_elim (comes_made w.made c)
      (λ h. All-contains (ComesFrom w.made) h.0.changes c (All-contains (PacketComes w.made) w.packets h.0 s.sent h.1) h.2) is
