-- Each line of a script is a schedule of a cluster: what it makes of the script's nodes, some events make of the
-- cluster's.
use Rattle.std.proofs.Common.{◌≡◌, ◌≢◌, ℕ, ◌+◌, ◌≤◌, ◌<◌, Bool, true, false, cond, Option, Some, None, List, [], ◌∷◌, ◌++◌, length, get_or, set, refl, sym, ◌∙◌, ap, subst, arith, ◌⊎◌, inl, inr, ⊎_elim}
use Rattle.std.specs.Prelude.{◌==◌, nat_lt, slice_get, Contains}
use Rattle.std.proofs.lemmas.Bool.Decides.{nat_tests}
use Rattle.std.proofs.lemmas.Option.{slice_get_read, slice_get_within, get_or_from_slice_get}
use Rattle.std.proofs.lemmas.List.{get_or-set_same, get_or-set_other, length-set, set-get_or, get_or_past}
use Rattle.std.proofs.lemmas.List.Elements.{Contains-append_right}
use Rattle.chat_change.specs.declared.change.Change.{Change}
use Rattle.chat_history.specs.Numbering.{delta}
use Rattle.peer_lines.specs.Packet.{Packet, Ack}
use Rattle.cluster_directory.specs.Names.{same_name}
use Rattle.cluster_directory.specs.declared.version.TheConstants.Version.{OWN}
use Rattle.gossip_link.specs.Link.{Link}
use Rattle.gossip_link.specs.Peer.{Peer, packet_of, after_packet as after_packet_sent, after_make, packet_is_mine, ack_of as ack_of_packet, after_ack}
use Rattle.gossip_link.specs.Cluster as cluster
use Rattle.gossip_link.specs.Cluster.{with_value, has_lived, with_packet}
use Rattle.gossip_link.specs.Promises.{IsReached}
use Rattle.gossip_link.proofs.CallerLemmas.{reached_then, Leads, takes_own, next_packet, sends_all, packet_comes_in, ack_comes_in, equal_is, changed_here, apart, changed_there}
use Rattle.bnc_server.specs.Command.{exchange, lose, hold_back, hand_over}
use Rattle.bnc_server.specs.Node.{Node, after_taking}
use Rattle.bnc_server.specs.Links.{no_link, link_at, with_peer, packet_for, after_making, after_ack_of, late_ack, with_late}
use Rattle.bnc_server.specs.World.{World, no_node, node_at, with_node, after_sending, delivering, ack_from, after_packet_of, ack_of, taking_ack, holding_back, after_command}
use Rattle.bnc_server.specs.Script.{name_of}
use Rattle.bnc_server.specs.Schedule.{node_count, ArePlaces, IsShown}

-- ---- places and names

pub equal_or_not : (a b : ℕ) → (a ≡ b) ⊎ (a ≢ b)
equal_or_not a b = elim (a == b) as (λ t. (a == b) ≡ t → (a ≡ b) ⊎ (a ≢ b)) [
  | true ↦ λ e. inl (equal_is a b e)
  | false ↦ λ e. inr (λ p. grind (arith, nat_tests))
] refl

name_tells : (a b : ℕ) → name_of a ≡ name_of b → a ≡ b
name_tells a b e = let second : 49 + a ≡ 49 + b = cc e in omega (arith, second)

pub names_differ : (a b : ℕ) → a ≢ b → same_name (name_of a) (name_of b) ≡ false
names_differ a b ne = apart (name_of a) (name_of b) (λ e. ne (name_tells a b e))

-- ---- a node of the script and one of the cluster

-- the link of the node at place k with the node at place l
pub record LinkAgrees (k : ℕ) (x : cluster.Node) (l : ℕ) (n : Link) : Type 0 where
  pub me : n.me ≡ cluster.life (name_of k) x
  pub name : n.name ≡ name_of l
  pub peer : k ≢ l → x.peers (name_of l) ≡ n.peer

-- the node at place k, where these acknowledgements were sent
pub record Agrees (acks : List Ack) (k : ℕ) (x : cluster.Node) (s : Node) : Type 0 where
  pub life : cluster.life (name_of k) x ≡ s.life
  pub version : x.version ≡ OWN
  pub taken : x.taken ≡ s.taken
  pub size : length s.links ≡ node_count
  pub links : (l : ℕ) → l < node_count → LinkAgrees k x l (link_at s l)
  pub newest : (i : ℕ) → has_lived x i ≡ true → i ≤ x.incarnation
  pub late : (l : ℕ) (a : Ack) → late_ack s l ≡ Some a → Contains acks a

-- what it holds of its client, and what it took, are apart from its links
pub agrees_as : (acks : List Ack) (k : ℕ) (x y : cluster.Node) (s t : Node) → Agrees acks k x s
    → y.incarnation ≡ x.incarnation → y.earlier ≡ x.earlier → y.version ≡ x.version → ((name : List ℕ) → y.peers name ≡ x.peers name)
    → t.life ≡ s.life → t.links ≡ s.links → t.late ≡ s.late → y.taken ≡ t.taken → Agrees acks k y t
agrees_as acks k x y s t a same_incarnation same_earlier same_version same_peers same_life same_links same_late taken =
    let lives : cluster.life (name_of k) y ≡ cluster.life (name_of k) x = (λ i. record { node = name_of k; incarnation = same_incarnation i }) in
    record {
      life = lives ∙ a.life ∙ sym same_life;
      version = same_version ∙ a.version;
      taken = taken;
      size = ap length same_links ∙ a.size;
      links = λ l h.
          let n = a.links l h in
          subst (λ ls. LinkAgrees k y l (get_or ls l no_link)) (sym same_links)
          (record { me = n.me ∙ sym lives; name = n.name; peer = λ d. same_peers (name_of l) ∙ n.peer d });
      newest = λ i h. subst (λ m. i ≤ m) (sym same_incarnation) (a.newest i ((λ j. has_lived (record x { incarnation = sym same_incarnation j; earlier = sym same_earlier j }) i) ∙ h));
      late = λ l b e. a.late l b (ap (λ ls. get_or ls l None) (sym same_late) ∙ e);
    }

agrees_taken : (acks : List Ack) (k : ℕ) (x : cluster.Node) (s : Node) (changes : List Change) → Agrees acks k x s → Agrees acks k (cluster.with_taken x changes) (after_taking s changes)
agrees_taken acks k x s changes a =
    agrees_as acks k x (cluster.with_taken x changes) s (after_taking s changes) a refl refl refl (λ name. refl) refl refl refl (ap (λ l. l ++ changes) a.taken)

agrees_used : (acks : List Ack) (k : ℕ) (x : cluster.Node) (s : Node) (name : List ℕ) (count : ℕ) → Agrees acks k x s → Agrees acks k (cluster.with_used x name count) s
agrees_used acks k x s name count a =
    agrees_as acks k x (cluster.with_used x name count) s s a refl refl refl (λ other. refl) refl refl refl a.taken

-- more was sent
agrees_more : (first : Ack) (acks : List Ack) (k : ℕ) (x : cluster.Node) (s : Node) → Agrees acks k x s → Agrees (first ∷ acks) k x s
agrees_more first acks k x s a = record {
  life = a.life;
  version = a.version;
  taken = a.taken;
  size = a.size;
  links = a.links;
  newest = a.newest;
  late = λ l b e. Contains-append_right (first ∷ []) acks b (a.late l b e);
}

-- an acknowledgement is held back
agrees_late : (acks : List Ack) (k r : ℕ) (x : cluster.Node) (s : Node) (ack : Ack) → Contains acks ack → Agrees acks k x s → Agrees acks k x (with_late s r ack)
agrees_late acks k r x s ack sent a = record {
  life = a.life;
  version = a.version;
  taken = a.taken;
  size = a.size;
  links = a.links;
  newest = a.newest;
  late = λ l b e. held l b e (equal_or_not l r);
} where
  held : (l : ℕ) (b : Ack) → late_ack (with_late s r ack) l ≡ Some b → (l ≡ r) ⊎ (l ≢ r) → Contains acks b
  held l b e (inr ne) = a.late l b (sym (get_or-set_other s.late r l (Some ack) None ne) ∙ e)
  held l b e (inl same) = within_or_not (nat_lt r (length s.late)) refl where
    within_or_not : (t : Bool) → nat_lt r (length s.late) ≡ t → Contains acks b
    within_or_not true t =
        let fits : r < length s.late = grind (arith, nat_tests) in
        let got : Some ack ≡ Some b = sym (get_or-set_same s.late r (Some ack) None fits) ∙ ap (late_ack (with_late s r ack)) (sym same) ∙ e in
        let is : ack ≡ b = cc in
        subst (Contains acks) is sent
    within_or_not false t =
        let past : length (set s.late r (Some ack)) ≤ l = (let size = length-set s.late r (Some ack) in grind (arith, nat_tests)) in
        (let no' : None ≡ Some b = sym (get_or_past (set s.late r (Some ack)) l None past) ∙ e in (cc))

-- what it knows of one peer changes
module _ (acks : List Ack) (k r : ℕ) (x : cluster.Node) (s : Node) (p q : Peer) (within : r < node_count) (e : p ≡ q) (a : Agrees acks k x s) where
  abbrev new : cluster.Node
  new = cluster.with_peer x (name_of r) p

  abbrev link : Link
  link = record (link_at s r) { peer = q }

  fits : r < length s.links
  fits = let size = a.size in omega (arith, size, within)

  here : LinkAgrees k new r (link_at (with_peer s r q) r)
  here =
      let n = a.links r within in
      subst (LinkAgrees k new r) (sym (get_or-set_same s.links r link no_link fits))
      (record { me = n.me; name = n.name; peer = λ _. changed_here x.peers (name_of r) p ∙ e })

  there : (l : ℕ) → l < node_count → l ≢ r → LinkAgrees k new l (link_at (with_peer s r q) l)
  there l h ne =
      let n = a.links l h in
      subst (LinkAgrees k new l) (sym (get_or-set_other s.links r l link no_link ne))
      (record { me = n.me; name = n.name; peer = λ d. changed_there x.peers (name_of r) (name_of l) p (names_differ r l (λ f. ne (sym f))) ∙ n.peer d })

  pub agrees_peer : Agrees acks k (cluster.with_peer x (name_of r) p) (with_peer s r q)
  agrees_peer = record {
    life = a.life;
    version = a.version;
    taken = a.taken;
    size = length-set s.links r link ∙ a.size;
    links = λ l h. ⊎_elim (λ same. subst (λ m. LinkAgrees k new m (link_at (with_peer s r q) m)) (sym same) here) (there l h) (equal_or_not l r);
    newest = a.newest;
    late = a.late;
  }

-- ---- the script's world and the cluster's

pub record Shown (w : cluster.World) (v : World) : Type 0 where
  pub reached : IsReached w
  pub count : length v.nodes ≡ node_count
  pub agree : (k : ℕ) → k < node_count → Agrees w.acks k (w.nodes (name_of k)) (node_at v k)

-- some world of the cluster shows the script's
abbrev pub IsShownBySome : World → Type 0
IsShownBySome v = (w : cluster.World) × Shown w v

-- what a reader learns of it
pub shown_is : (w : cluster.World) (v : World) → Shown w v → IsShown w v
shown_is w v h = record {
  taken = λ k within. (h.agree k within).taken;
  life = λ k within. (h.agree k within).life;
  known = λ k l are. ((h.agree k are.is_one).links l are.is_other).peer are.differ;
}

-- one node changes in both
agree_one : (acks : List Ack) (nodes : List ℕ → cluster.Node) (list : List Node) (k : ℕ) (x : cluster.Node) (s : Node) → length list ≡ node_count → k < node_count → Agrees acks k x s
    → ((j : ℕ) → j < node_count → Agrees acks j (nodes (name_of j)) (get_or list j no_node))
    → (j : ℕ) → j < node_count → Agrees acks j (with_value nodes (name_of k) x (name_of j)) (get_or (set list k s) j no_node)
agree_one acks nodes list k x s size within here there j h = ⊎_elim
    (λ same. subst (λ m. Agrees acks m (with_value nodes (name_of k) x (name_of m)) (get_or (set list k s) m no_node)) (sym same)
    (subst (λ y. Agrees acks k y (get_or (set list k s) k no_node)) (sym (changed_here nodes (name_of k) x))
    (subst (Agrees acks k x) (sym (get_or-set_same list k s no_node (omega (arith, size, within)))) here)))
    (λ ne. subst (λ y. Agrees acks j y (get_or (set list k s) j no_node)) (sym (changed_there nodes (name_of k) (name_of j) x (names_differ k j (λ f. ne (sym f)))))
    (subst (Agrees acks j (nodes (name_of j))) (sym (get_or-set_other list k j s no_node ne)) (there j h)))
    (equal_or_not j k)

-- one node changes in the script alone
agree_here : (acks : List Ack) (nodes : List ℕ → cluster.Node) (list : List Node) (k : ℕ) (s : Node) → length list ≡ node_count → k < node_count → Agrees acks k (nodes (name_of k)) s
    → ((j : ℕ) → j < node_count → Agrees acks j (nodes (name_of j)) (get_or list j no_node))
    → (j : ℕ) → j < node_count → Agrees acks j (nodes (name_of j)) (get_or (set list k s) j no_node)
agree_here acks nodes list k s size within here there j h = ⊎_elim
    (λ same. subst (λ m. Agrees acks m (nodes (name_of m)) (get_or (set list k s) m no_node)) (sym same)
    (subst (Agrees acks k (nodes (name_of k))) (sym (get_or-set_same list k s no_node (omega (arith, size, within)))) here))
    (λ ne. subst (Agrees acks j (nodes (name_of j))) (sym (get_or-set_other list k j s no_node ne)) (there j h))
    (equal_or_not j k)

count_one : (v : World) (k : ℕ) (s : Node) → length v.nodes ≡ node_count → length (with_node v k s).nodes ≡ node_count
count_one v k s e = length-set v.nodes k s ∙ e

-- a node that changes for its client alone, and takes changes of its own
pub own_shown : (v : World) (k : ℕ) (s : Node) (changes : List Change) → k < node_count → IsShownBySome v
    → s.life ≡ (node_at v k).life → s.links ≡ (node_at v k).links → s.late ≡ (node_at v k).late → s.taken ≡ (node_at v k).taken ++ changes
    → IsShownBySome (with_node v k s)
own_shown v k s changes within (w, h) same_life same_links same_late took =
    let x = w.nodes (name_of k) in
    let u : cluster.World = record w { nodes = with_value w.nodes (name_of k) (cluster.with_taken x changes); made = record { by = name_of k; changes = changes } ∷ w.made } in (
      u,
      record {
        reached = reached_then w u h.reached (takes_own w (name_of k) changes);
        count = count_one v k s h.count;
        agree = agree_one w.acks w.nodes v.nodes k (cluster.with_taken x changes) s h.count within
            (agrees_as w.acks k x (cluster.with_taken x changes) (node_at v k) s (h.agree k within) refl refl refl (λ name. refl) same_life same_links same_late
            (ap (λ l. l ++ changes) (h.agree k within).taken ∙ sym took)) h.agree;
      },
    )

-- ---- packets

module _ (w : cluster.World) (v : World) (h : Shown w v) (s r : ℕ) (are : ArePlaces s r) where
  abbrev x : cluster.Node
  x = w.nodes (name_of s)

  abbrev sender : Node
  sender = node_at v s

  abbrev link_to : Link
  link_to = link_at sender r

  abbrev mine : Agrees w.acks s x sender
  mine = h.agree s are.is_one

  abbrev along : LinkAgrees s x r link_to
  along = mine.links r are.is_other

  -- the packet of the cluster is the script's
  same_packet : next_packet w (name_of s) (name_of r) ≡ packet_for sender r
  same_packet =
      let peer = along.peer are.differ in
      (λ i. packet_of (mine.version i) (sym along.me i) (sym along.name i) ((peer i).heard) (delta 0 (mine.taken i) ((peer i).acked)))

  nothing_sent : packet_for sender r ≡ None → after_sending v s r ≡ v
  nothing_sent e =
      ap (λ o. with_node v s (with_peer sender r (after_make link_to.peer o))) e
      ∙ ap (λ ls. with_node v s (record sender { links = ls })) (set-get_or sender.links r no_link)
      ∙ ap (λ ns. record v { nodes = ns }) (set-get_or v.nodes s no_node)

  -- the packet is made
  pub sent_shown : (o : Option Packet) → packet_for sender r ≡ o
      → (u : cluster.World) × Shown u (after_sending v s r) × ((p : Packet) → o ≡ Some p → slice_get u.packets 0 ≡ Some p)
  sent_shown None e = (w, subst (Shown w) (sym (nothing_sent e)) h, λ p f. (cc))
  sent_shown (Some p) e =
      let u = with_packet w (name_of s) (name_of r) (length x.taken) (Some p) in
      let knowing = cluster.with_peer x (name_of r) (after_packet_sent (x.peers (name_of r)) p) in
      let leads : Leads w u = subst (λ o. Leads w (with_packet w (name_of s) (name_of r) (length x.taken) o)) (same_packet ∙ e) (sends_all w (name_of s) (name_of r) h.reached) in
      let peer : after_packet_sent (x.peers (name_of r)) p ≡ after_make link_to.peer (packet_for sender r) =
      ap (λ q. after_packet_sent q p) (along.peer are.differ) ∙ ap (after_make link_to.peer) (sym e) in (
        u,
        record {
          reached = reached_then w u h.reached leads;
          count = count_one v s (after_making sender r) h.count;
          agree = agree_one w.acks w.nodes v.nodes s (cluster.with_used knowing (name_of r) (length x.taken)) (after_making sender r) h.count are.is_one
              (agrees_used w.acks s knowing (after_making sender r) (name_of r) (length x.taken)
              (agrees_peer w.acks s r x sender (after_packet_sent (x.peers (name_of r)) p) (after_make link_to.peer (packet_for sender r)) are.is_other peer mine)) h.agree;
        },
        λ q f. f,
      )

  -- an acknowledgement reaches the sender
  heard_shown : (a : Ack) (which : ℕ) → slice_get w.acks which ≡ Some a → IsShownBySome (with_node v s (after_ack_of sender r a))
  heard_shown a which there =
      let now = after_ack (cluster.life (name_of s) x) (name_of r) (x.peers (name_of r)) a in
      let u = cluster.with_node w (name_of s) (cluster.with_peer x (name_of r) now) in
      let theirs = after_ack link_to.me link_to.name link_to.peer a in
      let peer : now ≡ theirs = (λ i. after_ack (sym along.me i) (sym along.name i) (along.peer are.differ i) a) in (
        u,
        record {
          reached = reached_then w u h.reached (ack_comes_in w (name_of s) (name_of r) which a there);
          count = count_one v s (after_ack_of sender r a) h.count;
          agree = agree_one w.acks w.nodes v.nodes s (cluster.with_peer x (name_of r) now) (after_ack_of sender r a) h.count are.is_one
              (agrees_peer w.acks s r x sender now theirs are.is_other peer mine) h.agree;
        },
      )

  pub ack_shown : (o : Option Ack) → ((a : Ack) → o ≡ Some a → (which : ℕ) × (slice_get w.acks which ≡ Some a)) → IsShownBySome (taking_ack v s r o).world
  ack_shown None sent = (w, h)
  ack_shown (Some a) sent = heard_shown a (sent a refl).0 (sent a refl).1

  -- it is held back
  pub held_shown : (o : Option Ack) → ((a : Ack) → o ≡ Some a → slice_get w.acks 0 ≡ Some a) → IsShownBySome (holding_back v s r o)
  held_shown None sent = (w, h)
  held_shown (Some a) sent =
      let is = sent a refl in
      let contained : Contains w.acks a = (0, slice_get_within w.acks 0 a is, get_or_from_slice_get w.acks 0 a a is) in (
        w,
        record {
          reached = h.reached;
          count = count_one v s (with_late sender r a) h.count;
          agree = agree_here w.acks w.nodes v.nodes s (with_late sender r a) h.count are.is_one (agrees_late w.acks s r x sender a contained mine) h.agree;
        },
      )

  -- ---- the receiver

  abbrev y : cluster.Node
  y = w.nodes (name_of r)

  abbrev receiver : Node
  receiver = node_at v r

  abbrev link_from : Link
  link_from = link_at receiver s

  abbrev back : LinkAgrees r y s link_from
  back = (h.agree r are.is_other).links s are.is_one

  abbrev with_test : Bool → Packet → World
  with_test t p = with_node v r (cond t (after_taking receiver p.changes) receiver)

  abbrev ack_with : Bool → Packet → Option Ack
  ack_with t p = cond t (Some (ack_of_packet link_from.me p)) None

  -- the packet reaches it
  come_shown : (p : Packet) (t : Bool) → packet_is_mine link_from.me link_from.name p ≡ t → slice_get w.packets 0 ≡ Some p
      → (u : cluster.World) × Shown u (with_test t p) × ((a : Ack) → ack_with t p ≡ Some a → slice_get u.acks 0 ≡ Some a)
  come_shown p false e there = (w, subst (λ ns. Shown w (record v { nodes = ns })) (sym (set-get_or v.nodes r no_node)) h, λ a f. (cc))
  come_shown p true e there =
      let ack = ack_of_packet (cluster.life (name_of r) y) p in
      let u : cluster.World = record w { nodes = with_value w.nodes (name_of r) (cluster.with_taken y p.changes); acks = ack ∷ w.acks } in
      let is_mine : packet_is_mine (cluster.life (name_of r) y) (name_of s) p ≡ true =
      (λ i. packet_is_mine (sym back.me i) (sym back.name i) p) ∙ e in (
        u,
        record {
          reached = reached_then w u h.reached (packet_comes_in w (name_of r) (name_of s) 0 p there is_mine);
          count = count_one v r (after_taking receiver p.changes) h.count;
          agree = agree_one (ack ∷ w.acks) w.nodes v.nodes r (cluster.with_taken y p.changes) (after_taking receiver p.changes) h.count are.is_other
              (agrees_more ack w.acks r (cluster.with_taken y p.changes) (after_taking receiver p.changes) (agrees_taken w.acks r y receiver p.changes (h.agree r are.is_other)))
              (λ j within. agrees_more ack w.acks j (w.nodes (name_of j)) (node_at v j) (h.agree j within));
        },
        λ a f. ap (λ l. Some (ack_of_packet l p)) (sym back.me) ∙ f,
      )

  pub delivered_shown : (o : Option Packet) → ((p : Packet) → o ≡ Some p → slice_get w.packets 0 ≡ Some p)
      → (u : cluster.World) × Shown u (delivering v s r o) × ((a : Ack) → ack_from v s r o ≡ Some a → slice_get u.acks 0 ≡ Some a)
  delivered_shown None sent = (w, h, λ a f. (cc))
  delivered_shown (Some p) sent = come_shown p (packet_is_mine link_from.me link_from.name p) refl (sent p refl)

-- a packet is made, and reaches the receiver
both_shown : (v : World) (s r : ℕ) → ArePlaces s r → IsShownBySome v
    → (u : cluster.World) × Shown u (after_packet_of v s r) × ((a : Ack) → ack_of v s r ≡ Some a → slice_get u.acks 0 ≡ Some a)
both_shown v s r are (w, h) =
    let sent = sent_shown w v h s r are (packet_for (node_at v s) r) refl in
    delivered_shown sent.0 (after_sending v s r) sent.1 s r are (packet_for (node_at v s) r) sent.2

-- ---- the commands but restarts

pub exchange_shown : (v : World) (s r : ℕ) → ArePlaces s r → IsShownBySome v → IsShownBySome (after_command v (exchange s r)).world
exchange_shown v s r are h =
    let both = both_shown v s r are h in
    ack_shown both.0 (after_packet_of v s r) both.1 s r are (ack_of v s r) (λ a e. (0, both.2 a e))

pub loss_shown : (v : World) (s r : ℕ) → ArePlaces s r → IsShownBySome v → IsShownBySome (after_command v (lose s r)).world
loss_shown v s r are (w, h) = let sent = sent_shown w v h s r are (packet_for (node_at v s) r) refl in (sent.0, sent.1)

pub holding_shown : (v : World) (s r : ℕ) → ArePlaces s r → IsShownBySome v → IsShownBySome (after_command v (hold_back s r)).world
holding_shown v s r are h =
    let both = both_shown v s r are h in
    held_shown both.0 (after_packet_of v s r) both.1 s r are (ack_of v s r) both.2

pub handing_shown : (v : World) (s r : ℕ) → ArePlaces s r → IsShownBySome v → IsShownBySome (after_command v (hand_over s r)).world
handing_shown v s r are (w, h) =
    ack_shown w v h s r are (late_ack (node_at v s) r)
    (λ a e. let there = (h.agree s are.is_one).late r a e in (there.0, slice_get_read w.acks (length w.acks) there.0 a refl there.1 (sym there.2)))
