-- Hellos of a script: at its beginning each node hears of all others, and a node that starts again hears of them and
-- they of it.
use Rattle.std.proofs.Common.{◌≡◌, ◌≢◌, ℕ, zero, suc, ◌+◌, ◌≤◌, ◌<◌, true, false, ◌||◌, List, [], ◌∷◌, length, get_or, set, map, refl, sym, ◌∙◌, ap, subst, arith, ◌⊎◌, inl, inr, ⊎_elim}
use Rattle.std.specs.Prelude.{◌==◌}
use Rattle.std.specs.List.{list_any}
use Rattle.std.proofs.lemmas.List.{get_or-set_same, get_or-set_other, length-set, get_or-map, length-map}
use Rattle.cluster_directory.specs.Life.{Life}
use Rattle.cluster_directory.specs.declared.version.TheConstants.Version.{OWN}
use Rattle.gossip_link.specs.Peer.{unheard, after_hello}
use Rattle.gossip_link.specs.Cluster as cluster
use Rattle.gossip_link.specs.Cluster.{with_value, has_lived}
use Rattle.gossip_link.specs.Promises.{IsReached}
use Rattle.gossip_link.proofs.CallerLemmas.{reached_then, hears_hello, restarts, equal_is, changed_here, changed_there}
use Rattle.client_session.specs.declared.stage.Stage.{Stage}
use Rattle.bnc_server.specs.Node.{Node}
use Rattle.bnc_server.specs.Links.{link_with, new_node, no_link, link_at, hearing}
use Rattle.bnc_server.specs.World.{World, no_node, node_at, next_life, life_of, lives_with}
use Rattle.bnc_server.specs.Script.{name_of}
use Rattle.bnc_server.specs.Schedule.{node_count}
use Rattle.bnc_server.proofs.ScheduleLemmas.{equal_or_not, names_differ, LinkAgrees, Agrees, agrees_peer, Shown, IsShownBySome}

-- ---- a node hears of the others, up to a place

pub record Heard (u : cluster.World) (k n : ℕ) : Type 0 where
  pub world : cluster.World
  pub reached : IsReached world
  pub acks : world.acks ≡ u.acks
  pub others : (j : ℕ) → j ≢ k → world.nodes (name_of j) ≡ u.nodes (name_of j)
  pub taken : (world.nodes (name_of k)).taken ≡ (u.nodes (name_of k)).taken
  pub incarnation : (world.nodes (name_of k)).incarnation ≡ (u.nodes (name_of k)).incarnation
  pub earlier : (world.nodes (name_of k)).earlier ≡ (u.nodes (name_of k)).earlier
  pub version : (world.nodes (name_of k)).version ≡ (u.nodes (name_of k)).version
  pub known : (l : ℕ) → l ≢ k → l < n → (world.nodes (name_of k)).peers (name_of l) ≡ after_hello (name_of l) unheard (cluster.life (name_of l) (u.nodes (name_of l))) OWN
  pub unknown : (l : ℕ) → l ≢ k → n ≤ l → (world.nodes (name_of k)).peers (name_of l) ≡ unheard

module _ (u : cluster.World) (k : ℕ) where
  heard_more : (n : ℕ) → Heard u k n → (n ≡ k) ⊎ (n ≢ k) → Heard u k (suc n)
  heard_more n t (inl same) = record {
    world = t.world;
    reached = t.reached;
    acks = t.acks;
    others = t.others;
    taken = t.taken;
    incarnation = t.incarnation;
    earlier = t.earlier;
    version = t.version;
    known = λ l d h. let ne : l ≢ n = λ e. d (e ∙ same) in t.known l d (omega (arith, h, ne));
    unknown = λ l d h. t.unknown l d (omega (arith, h));
  }
  heard_more n t (inr apart) =
      let x = t.world.nodes (name_of k) in
      let p = after_hello (name_of n) (x.peers (name_of n)) (cluster.life (name_of n) (t.world.nodes (name_of n))) OWN in
      let y = cluster.with_peer x (name_of n) p in
      let v : cluster.World = record t.world { nodes = with_value t.world.nodes (name_of k) y; hellos = record { life = cluster.life (name_of n) (t.world.nodes (name_of n)); version = OWN } ∷ t.world.hellos } in
      let here : v.nodes (name_of k) ≡ y = changed_here t.world.nodes (name_of k) y in
      let there : (l : ℕ) → l ≢ n → (v.nodes (name_of k)).peers (name_of l) ≡ x.peers (name_of l) =
      (λ l ne. ap (λ (z : cluster.Node). z.peers (name_of l)) here ∙ changed_there x.peers (name_of n) (name_of l) p (names_differ n l (λ e. ne (sym e)))) in
      let now : p ≡ after_hello (name_of n) unheard (cluster.life (name_of n) (u.nodes (name_of n))) OWN =
      (λ i. after_hello (name_of n) (t.unknown n apart (omega arith) i) (cluster.life (name_of n) (t.others n apart i)) OWN) in
      let new : (v.nodes (name_of k)).peers (name_of n) ≡ after_hello (name_of n) unheard (cluster.life (name_of n) (u.nodes (name_of n))) OWN =
      ap (λ (z : cluster.Node). z.peers (name_of n)) here ∙ changed_here x.peers (name_of n) p ∙ now in
      record {
        world = v;
        reached = reached_then t.world v t.reached (hears_hello t.world (name_of k) (name_of n) OWN);
        acks = t.acks;
        others = λ j d. changed_there t.world.nodes (name_of k) (name_of j) y (names_differ k j (λ e. d (sym e))) ∙ t.others j d;
        taken = ap (λ (z : cluster.Node). z.taken) here ∙ t.taken;
        incarnation = ap (λ (z : cluster.Node). z.incarnation) here ∙ t.incarnation;
        earlier = ap (λ (z : cluster.Node). z.earlier) here ∙ t.earlier;
        version = ap (λ (z : cluster.Node). z.version) here ∙ t.version;
        known = λ l d h. ⊎_elim
            (λ same. subst (λ m. (v.nodes (name_of k)).peers (name_of m) ≡ after_hello (name_of m) unheard (cluster.life (name_of m) (u.nodes (name_of m))) OWN) (sym same) new)
            (λ ne. there l ne ∙ t.known l d (omega (arith, h, ne)))
            (equal_or_not l n);
        unknown = λ l d h. there l (λ e. omega (arith, h, e)) ∙ t.unknown l d (omega (arith, h));
      }

  pub hears_others : IsReached u → ((l : ℕ) → l ≢ k → (u.nodes (name_of k)).peers (name_of l) ≡ unheard) → (n : ℕ) → Heard u k n
  hears_others r none zero = record {
    world = u;
    reached = r;
    acks = refl;
    others = λ j d. refl;
    taken = refl;
    incarnation = refl;
    earlier = refl;
    version = refl;
    known = λ l d h. absurd (omega (arith, h));
    unknown = λ l d h. none l d;
  }
  hears_others r none (suc n) = heard_more n (hears_others r none n) (equal_or_not n k)

-- ---- the others hear of a node, up to a place

abbrev told_of : cluster.World → ℕ → ℕ → cluster.Node
told_of u k j =
    let x = u.nodes (name_of j) in
    cluster.with_peer x (name_of k) (after_hello (name_of k) (x.peers (name_of k)) (cluster.life (name_of k) (u.nodes (name_of k))) OWN)

pub record Told (u : cluster.World) (k n : ℕ) : Type 0 where
  pub world : cluster.World
  pub reached : IsReached world
  pub acks : world.acks ≡ u.acks
  pub own : world.nodes (name_of k) ≡ u.nodes (name_of k)
  pub told : (j : ℕ) → j ≢ k → j < n → world.nodes (name_of j) ≡ told_of u k j
  pub untold : (j : ℕ) → j ≢ k → n ≤ j → world.nodes (name_of j) ≡ u.nodes (name_of j)

module _ (u : cluster.World) (k : ℕ) where
  told_more : (n : ℕ) → Told u k n → (n ≡ k) ⊎ (n ≢ k) → Told u k (suc n)
  told_more n t (inl same) = record {
    world = t.world;
    reached = t.reached;
    acks = t.acks;
    own = t.own;
    told = λ j d h. let ne : j ≢ n = λ e. d (e ∙ same) in t.told j d (omega (arith, h, ne));
    untold = λ j d h. t.untold j d (omega (arith, h));
  }
  told_more n t (inr apart) =
      let y = told_of t.world k n in
      let v : cluster.World = record t.world { nodes = with_value t.world.nodes (name_of n) y; hellos = record { life = cluster.life (name_of k) (t.world.nodes (name_of k)); version = OWN } ∷ t.world.hellos } in
      let there : (j : ℕ) → j ≢ n → v.nodes (name_of j) ≡ t.world.nodes (name_of j) =
      (λ j ne. changed_there t.world.nodes (name_of n) (name_of j) y (names_differ n j (λ e. ne (sym e)))) in
      let now : y ≡ told_of u k n =
      (λ i. cluster.with_peer (t.untold n apart (omega arith) i) (name_of k) (after_hello (name_of k) ((t.untold n apart (omega arith) i).peers (name_of k)) (cluster.life (name_of k) (t.own i)) OWN)) in
      record {
        world = v;
        reached = reached_then t.world v t.reached (hears_hello t.world (name_of n) (name_of k) OWN);
        acks = t.acks;
        own = there k (λ e. apart (sym e)) ∙ t.own;
        told = λ j d h. ⊎_elim
            (λ same. subst (λ m. v.nodes (name_of m) ≡ told_of u k m) (sym same) (changed_here t.world.nodes (name_of n) y ∙ now))
            (λ ne. there j ne ∙ t.told j d (omega (arith, h, ne)))
            (equal_or_not j n);
        untold = λ j d h. there j (λ e. omega (arith, h, e)) ∙ t.untold j d (omega (arith, h));
      }

  pub tells_others : IsReached u → (n : ℕ) → Told u k n
  tells_others r zero = record {
    world = u;
    reached = r;
    acks = refl;
    own = refl;
    told = λ j d h. absurd (omega (arith, h));
    untold = λ j d h. refl;
  }
  tells_others r (suc n) = told_more n (tells_others r n) (equal_or_not n k)

-- ---- a node that starts again

lived_so : (x : cluster.Node) (i : ℕ) → has_lived (cluster.new_node (x.incarnation + 1) (x.incarnation ∷ x.earlier) OWN) i ≡ true → ((j : ℕ) → has_lived x j ≡ true → j ≤ x.incarnation) → i ≤ x.incarnation + 1
lived_so x i e newest =
    elim ((x.incarnation + 1) == i) as (λ t. ((x.incarnation + 1) == i) ≡ t → (t || has_lived x i) ≡ true → i ≤ x.incarnation + 1) [
      | true ↦ λ t f. (let same = equal_is (x.incarnation + 1) i t in omega (arith, same))
      | false ↦ λ t f. (let l = newest i f in omega (arith, l))
    ] refl e

-- a new node among others
module _ (w : cluster.World) (v : World) (h : Shown w v) (k : ℕ) (within : k < node_count) (session : Stage) where
  abbrev x : cluster.Node
  x = w.nodes (name_of k)

  abbrev old : Node
  old = node_at v k

  abbrev mine : Agrees w.acks k x old
  mine = h.agree k within

  abbrev life : Life
  life = next_life (life_of old)

  abbrev fresh_node : cluster.Node
  fresh_node = cluster.new_node (x.incarnation + 1) (x.incarnation ∷ x.earlier) OWN

  fresh : has_lived x (x.incarnation + 1) ≡ false
  fresh = elim (has_lived x (x.incarnation + 1)) as (λ t. has_lived x (x.incarnation + 1) ≡ t → t ≡ false) [
    | true ↦ λ e. (let l = mine.newest (x.incarnation + 1) e in absurd (omega (arith, l)))
    | false ↦ λ e. refl
  ] refl

  abbrev begun : cluster.World
  begun = cluster.with_node w (name_of k) fresh_node

  begun_here : begun.nodes (name_of k) ≡ fresh_node
  begun_here = changed_here w.nodes (name_of k) fresh_node

  begun_there : (j : ℕ) → j ≢ k → begun.nodes (name_of j) ≡ w.nodes (name_of j)
  begun_there j d = changed_there w.nodes (name_of k) (name_of j) fresh_node (names_differ k j (λ e. d (sym e)))

  heard : Heard begun k node_count
  heard = hears_others begun k (reached_then w begun h.reached (restarts w (name_of k) (x.incarnation + 1) OWN fresh))
      (λ l d. ap (λ (z : cluster.Node). z.peers (name_of l)) begun_here) node_count

  told : Told heard.world k node_count
  told = tells_others heard.world k heard.reached node_count

  abbrev last : cluster.World
  last = told.world

  same_acks : last.acks ≡ w.acks
  same_acks = told.acks ∙ heard.acks

  -- the node itself
  abbrev me : cluster.Node
  me = last.nodes (name_of k)

  my_incarnation : me.incarnation ≡ x.incarnation + 1
  my_incarnation = ap (λ (z : cluster.Node). z.incarnation) told.own ∙ heard.incarnation ∙ ap (λ (z : cluster.Node). z.incarnation) begun_here

  my_earlier : me.earlier ≡ x.incarnation ∷ x.earlier
  my_earlier = ap (λ (z : cluster.Node). z.earlier) told.own ∙ heard.earlier ∙ ap (λ (z : cluster.Node). z.earlier) begun_here

  my_taken : me.taken ≡ []
  my_taken = ap (λ (z : cluster.Node). z.taken) told.own ∙ heard.taken ∙ ap (λ (z : cluster.Node). z.taken) begun_here

  my_version : me.version ≡ OWN
  my_version = ap (λ (z : cluster.Node). z.version) told.own ∙ heard.version ∙ ap (λ (z : cluster.Node). z.version) begun_here

  my_life : cluster.life (name_of k) me ≡ life
  my_life = (λ i. record { node = name_of k; incarnation = my_incarnation i }) ∙ ap next_life mine.life

  abbrev lives : List Life
  lives = lives_with v k life

  lives_size : length lives ≡ node_count
  lives_size = length-set (map life_of v.nodes) k life ∙ length-map v.nodes life_of ∙ h.count

  life_at : (l : ℕ) → l < node_count → l ≢ k → get_or lives l life ≡ cluster.life (name_of l) (w.nodes (name_of l))
  life_at l lt d =
      get_or-set_other (map life_of v.nodes) k l life life d
      ∙ get_or-map life_of v.nodes l no_node life (let c = h.count in omega (arith, c, lt))
      ∙ sym (h.agree l lt).life

  life_here : get_or lives k life ≡ life
  life_here = get_or-set_same (map life_of v.nodes) k life life (let c = h.count in let s = length-map v.nodes life_of in omega (arith, c, s, within))

  abbrev new : Node
  new = new_node session life lives old.late

  link_of : (l : ℕ) → l < node_count → link_at new l ≡ link_with life (get_or lives l life)
  link_of l lt = get_or-map (link_with life) lives l life no_link (let s = lives_size in omega (arith, s, lt))

  my_link : (l : ℕ) → l < node_count → (l ≡ k) ⊎ (l ≢ k) → LinkAgrees k me l (link_with life (get_or lives l life))
  my_link l lt (inl same) = record {
    me = sym my_life;
    name = ap (λ (z : Life). z.node) (ap (λ m. get_or lives m life) same ∙ life_here ∙ sym my_life) ∙ ap name_of (sym same);
    peer = λ d. absurd (d (sym same));
  }
  my_link l lt (inr d) = record {
    me = sym my_life;
    name = ap (λ (z : Life). z.node) (life_at l lt d);
    peer = λ _.
        ap (λ (z : cluster.Node). z.peers (name_of l)) told.own ∙ heard.known l d lt
        ∙ ap (λ (z : cluster.Node). after_hello (name_of l) unheard (cluster.life (name_of l) z) OWN) (begun_there l d)
        ∙ ap (λ (z : Life). after_hello z.node unheard z OWN) (sym (life_at l lt d));
  }

  my_newest : (i : ℕ) → has_lived me i ≡ true → i ≤ me.incarnation
  my_newest i e =
      let so = lived_so x i ((λ j. list_any (λ m. m == i) (sym my_incarnation j ∷ sym my_earlier j)) ∙ e) mine.newest in
      let now = my_incarnation in
      omega (arith, so, now)

  here_agrees : Agrees w.acks k me new
  here_agrees = record {
    life = my_life;
    taken = my_taken;
    size = length-map lives (link_with life) ∙ lives_size;
    links = λ l lt. subst (LinkAgrees k me l) (sym (link_of l lt)) (my_link l lt (equal_or_not l k));
    version = my_version;
    newest = my_newest;
    late = mine.late;
  }

  -- the others
  other_is : (j : ℕ) → j ≢ k → heard.world.nodes (name_of j) ≡ w.nodes (name_of j)
  other_is j d = heard.others j d ∙ begun_there j d

  their_life : cluster.life (name_of k) (heard.world.nodes (name_of k)) ≡ life
  their_life = ap (cluster.life (name_of k)) (sym told.own) ∙ my_life

  there_agrees : (j : ℕ) → j < node_count → j ≢ k → Agrees w.acks j (last.nodes (name_of j)) (hearing k life (node_at v j))
  there_agrees j lt d =
      let y = w.nodes (name_of j) in
      let s = node_at v j in
      let a = h.agree j lt in
      let link = link_at s k in
      let along = a.links k within in
      let p = after_hello (name_of k) (y.peers (name_of k)) life OWN in
      let is : last.nodes (name_of j) ≡ cluster.with_peer y (name_of k) p =
      told.told j d lt ∙ (λ i. cluster.with_peer (other_is j d i) (name_of k) (after_hello (name_of k) ((other_is j d i).peers (name_of k)) (their_life i) OWN)) in
      let peer : p ≡ after_hello link.name link.peer life OWN = (λ i. after_hello (sym along.name i) (along.peer d i) life OWN) in
      subst (λ z. Agrees w.acks j z (hearing k life s)) (sym is)
      (agrees_peer w.acks j k y s p (after_hello link.name link.peer life OWN) within peer a)

  abbrev others_told : List Node
  others_told = map (hearing k life) v.nodes

  all_agree : (j : ℕ) → j < node_count → (j ≡ k) ⊎ (j ≢ k) → Agrees w.acks j (last.nodes (name_of j)) (get_or (set others_told k new) j no_node)
  all_agree j lt (inl same) =
      subst (λ m. Agrees w.acks m (last.nodes (name_of m)) (get_or (set others_told k new) m no_node)) (sym same)
      (subst (Agrees w.acks k me) (sym (get_or-set_same others_told k new no_node (let c = h.count in let s = length-map v.nodes (hearing k life) in omega (arith, c, s, within)))) here_agrees)
  all_agree j lt (inr d) =
      subst (Agrees w.acks j (last.nodes (name_of j))) (sym (get_or-set_other others_told k j new no_node d ∙ get_or-map (hearing k life) v.nodes j no_node no_node (let c = h.count in omega (arith, c, lt))))
      (there_agrees j lt d)

  pub restarted_shown : (u : World) → u.nodes ≡ set others_told k new → IsShownBySome u
  restarted_shown u is = (
    last,
    record {
      reached = told.reached;
      count = ap length is ∙ length-set others_told k new ∙ length-map v.nodes (hearing k life) ∙ h.count;
      agree = λ j lt. subst (λ sent. Agrees sent j (last.nodes (name_of j)) (node_at u j)) (sym same_acks)
          (subst (λ ns. Agrees w.acks j (last.nodes (name_of j)) (get_or ns j no_node)) (sym is) (all_agree j lt (equal_or_not j k)));
    },
  )
