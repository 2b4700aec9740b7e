-- A node restarts, makes changes and takes them.
use Rattle.std.proofs.Common.{◌≡◌, ℕ, ◌≤◌, ◌<◌, false, List, [], ◌∷◌, length, take, refl, sym, ◌∙◌, ap, subst, cond, arith}
use Rattle.std.specs.Prelude.{◌==◌, ◌||◌, Contains}
use Rattle.std.specs.List.{AllByRecursion, list_any}
use Rattle.std.proofs.lemmas.Bool.Decides.{nat_tests}
use Rattle.std.proofs.lemmas.List.{take_all}
use Rattle.chat_change.specs.declared.change.Change.{Change}
use Rattle.chat_history.proofs.CallerLemmas.{norm_left}
use Rattle.cluster_directory.proofs.CallerLemmas.{same_name_itself}
use Rattle.cluster_directory.specs.declared.version.Version.{Version}
use Rattle.gossip_link.specs.Cluster.{Node, World, with_value, with_node, with_taken, new_node, run}
use Rattle.gossip_link.specs.Promises.{IsReached, ComesFrom}
use Rattle.gossip_link.proofs.CallerLemmas.{reached_then, changed_here}
use Rattle.keeper.specs.Keeper.{Says}
use Rattle.keeper.specs.Lives.{Life}
use Rattle.keeper_laws.proofs.MadeLemmas.{no_more}
use Rattle.keeper_laws.specs.Restart.{lives_of, HasLivedUpTo, IsReturn, IsBack, restart_with}

pub all_below : (n m : ℕ) (is : List ℕ) → n < m → AllByRecursion (λ i. i ≤ n) is → AllByRecursion (λ i. i < m) is
all_below n m [] lt all = tt
all_below n m (i ∷ is) lt all = (let h = all.0 in omega arith, all_below n m is lt all.1)

all_up : (m : ℕ) (is : List ℕ) → AllByRecursion (λ i. i < m) is → AllByRecursion (λ i. i ≤ m) is
all_up m [] all = tt
all_up m (i ∷ is) all = (let h = all.0 in omega arith, all_up m is all.1)

none_equal : (m : ℕ) (is : List ℕ) → AllByRecursion (λ i. i < m) is → list_any (λ j. j == m) is ≡ false
none_equal m [] all = refl
none_equal m (i ∷ is) all =
    let h = all.0 in
    let e : (i == m) ≡ false = grind (arith, nat_tests) in
    ap (λ b. b || list_any (λ j. j == m) is) e ∙ none_equal m is all.1

-- the world after the restart, and then with what is taken
abbrev started : World → List ℕ → ℕ → Version → World
started w name i version = with_node w name (new_node i (lives_of (w.nodes name)) version)

abbrev filled : World → List ℕ → List Change → World
filled v name found = record v {
  nodes = with_value v.nodes name (with_taken (v.nodes name) found);
  made = record { by = name; changes = found } ∷ v.made;
}

pub above : (x : Node) (life : Life) (found said : List Change) → IsReturn x life found said
    → AllByRecursion (λ i. i < life.number) (lives_of x)
above x life found said is = all_below is.known life.number (lives_of x) (is.begins.above said is.known is.covers) is.lived

pub ends : (w : World) (name : List ℕ) (i : ℕ) (version : Version) (found : List Change)
    → run (restart_with name i version found) w ≡ filled (started w name i version) name found
ends w name i version found =
    let v = started w name i version in
    let u : World = record v { made = record { by = name; changes = found } ∷ v.made } in
    ap (λ b. cond b (with_node u name (with_taken (v.nodes name) (take (length found) found))) u) (same_name_itself name)
    ∙ ap (λ cs. with_node u name (with_taken (v.nodes name) cs)) (take_all (length found) found (omega arith))

pub is_reached : (w : World) → IsReached w → (name : List ℕ) (version : Version) (life : Life) (found said : List Change)
    → IsReturn (w.nodes name) life found said
    → IsReached (run (restart_with name life.number version found) w)
is_reached w r name version life found said is =
    let fresh = none_equal life.number (lives_of (w.nodes name)) (above (w.nodes name) life found said is) in
    let events = restart_with name life.number version found in
    reached_then w (run events w) r (record { events = events; differ = (fresh, (tt, (tt, tt))); ends = refl })

-- the node then
pub there : (w : World) (name : List ℕ) (i : ℕ) (version : Version) (found : List Change)
    → (run (restart_with name i version found) w).nodes name ≡ with_taken (new_node i (lives_of (w.nodes name)) version) found
there w name i version found =
    let v = started w name i version in
    let x = new_node i (lives_of (w.nodes name)) version in
    ap (λ (u : World). u.nodes name) (ends w name i version found)
    ∙ changed_here v.nodes name (with_taken (v.nodes name) found)
    ∙ ap (λ (y : Node). with_taken y found) (changed_here w.nodes name x)

pub is_back : (w : World) (name : List ℕ) (version : Version) (life : Life) (found said : List Change)
    → IsReturn (w.nodes name) life found said
    → IsBack (w.nodes name) life.number found said ((run (restart_with name life.number version found) w).nodes name)
is_back w name version life found said is =
    let over = above (w.nodes name) life found said is in
    let e = there w name life.number version found in
    record {
      holds = ap (λ (y : Node). y.history) e ∙ norm_left [] found;
      says = subst (λ (y : Node). Says y.taken said) (sym e) is.says;
      incarnation = ap (λ (y : Node). y.incarnation) e;
      above = over;
      lived = subst (HasLivedUpTo life.number) (sym e) (omega arith, all_up life.number (lives_of (w.nodes name)) over);
    }

pub no_news : (w : World) (name : List ℕ) (version : Version) (i : ℕ) (found : List Change)
    → ((c : Change) → Contains found c → ComesFrom w.made c)
    → (c : Change) → ComesFrom (run (restart_with name i version found) w).made c → ComesFrom w.made c
no_news w name version i found all c h =
    no_more (record { by = name; changes = found }) w.made all c
    (subst (λ (v : World). ComesFrom v.made c) (ends w name i version found) h)
