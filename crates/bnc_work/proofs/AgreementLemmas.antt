-- What a change of both collections at one timer leaves of their agreement.
use Rattle.std.proofs.Common.{◌≡◌, refl, sym, ◌∙◌, ap, subst, ℕ, nat_eq, ◌<◌, ◌≤◌, Bool, true, false, cond, ◌&&◌, Option, Some, None, arith, length, [], ◌∷◌, List}
use Rattle.std.specs.List.{list_any}
use Rattle.std.proofs.lemmas.Bool.{false≢true}
use Rattle.std.specs.declared.cmp.Ordering.{Ordering}
use Rattle.std.specs.Ordering.{eq_by_cmp, is_eq, is_gt, ordering_then, nat_cmp}
use Rattle.std.specs.BTreeMap as tree
use Rattle.std.specs.BTreeSet as sorted
use Rattle.std.specs.FinMap as finite
use Rattle.ordered_maps.specs.MapView.{held_by, IsSetTo, IsWith, IsWithout}
use Rattle.ordered_maps.proofs.CallerLemmas.{get-held_by}
use Rattle.bnc_work.specs.declared.timer.Timer.{Timer}
use Rattle.bnc_work.specs.declared.due.Due.{Due}
use Rattle.bnc_work.specs.Order.{timer_cmp, due_cmp}
use Rattle.bnc_work.specs.Agreement.{Moments, Dues, due, is_then, Agree}
use Rattle.bnc_work.specs.Timers.{Timers, IsFrom, IsLaterThan}
use Rattle.bnc_work.proofs.OrderLemmas.{timer_total, timer_exact, same_timer, same_timer_is, same_timer_itself, same_due}

-- the moment of a timer, as it is found
pub found : (moments : Moments) (s : Timers) (k : Timer) → held_by moments.entries ≡ s → tree.get timer_cmp moments k ≡ finite.get s k
found moments s k is = sym (get-held_by timer_total moments.entries k) ∙ ap (λ (x : Timers). finite.get x k) is

-- the order after a timer at a moment came in, or went
abbrev pub Turns : Dues → ℕ → Timer → Bool → Dues → Type 0
Turns m t k b n = (q : Due) → sorted.contains due_cmp n q ≡ cond (eq_by_cmp due_cmp (due t k) q) b (sorted.contains due_cmp m q)

module _ (m n : Dues) (at : ℕ) (k : Timer) (b : Bool) (up : Turns m at k b n) where
  pub turned_elsewhere : (t : ℕ) (j : Timer) → same_timer k j ≡ false → sorted.contains due_cmp n (due t j) ≡ sorted.contains due_cmp m (due t j)
  turned_elsewhere t j e =
      up (due t j) ∙ ap (λ s. cond s b (sorted.contains due_cmp m (due t j))) (same_due at t k j ∙ ap (λ s. nat_eq at t && s) e ∙ never (nat_eq at t))
    where
      never : (s : Bool) → (s && false) ≡ false
      never true = refl
      never false = refl

  pub turned_here : (t : ℕ) → sorted.contains due_cmp n (due t k) ≡ cond (nat_eq at t) b (sorted.contains due_cmp m (due t k))
  turned_here t =
      up (due t k) ∙ ap (λ s. cond s b (sorted.contains due_cmp m (due t k))) (same_due at t k k ∙ ap (λ s. nat_eq at t && s) (same_timer_itself k) ∙ always (nat_eq at t))
    where
      always : (s : Bool) → (s && true) ≡ s
      always true = refl
      always false = refl

-- both collections were changed at one timer alone, and agree there
settled : (m u : Dues) (ids jds : Moments) (k : Timer) (v : Option ℕ)
    → ((t : ℕ) (j : Timer) → same_timer k j ≡ false → sorted.contains due_cmp u (due t j) ≡ sorted.contains due_cmp m (due t j))
    → ((t : ℕ) → sorted.contains due_cmp u (due t k) ≡ is_then t v)
    → IsSetTo timer_cmp ids.entries k v jds.entries → Agree m ids → Agree u jds
settled m u ids jds k v elsewhere here stands a t j = by (same_timer k j) refl
  where
    by : (b : Bool) → same_timer k j ≡ b → sorted.contains due_cmp u (due t j) ≡ is_then t (tree.get timer_cmp jds j)
    by true e =
        subst (λ x. sorted.contains due_cmp u (due t x) ≡ is_then t v) (same_timer_is k j e) (here t)
        ∙ ap (is_then t) (sym (stands j ∙ ap (λ s. cond s v (tree.get timer_cmp ids j)) e))
    by false e =
        elsewhere t j e ∙ a t j
        ∙ ap (is_then t) (sym (stands j ∙ ap (λ s. cond s v (tree.get timer_cmp ids j)) e))

turned_eq : (s t : ℕ) → nat_eq s t ≡ nat_eq t s
turned_eq s t = grind arith

itself : (t : ℕ) → nat_eq t t ≡ true
itself t = grind arith

-- a timer comes to its moment
module _ (m n : Dues) (ids jds : Moments) (a : Agree m ids) (k : Timer) (at : ℕ)
    (up : Turns m at k true n) (stands : IsWith timer_cmp ids.entries k at jds.entries) where
  there : (t : ℕ) (o : Option ℕ) → tree.get timer_cmp ids k ≡ o → sorted.contains due_cmp n (due t k) ≡ cond (nat_eq at t) true (is_then t o)
  there t o e = turned_here m n at k true up t ∙ ap (cond (nat_eq at t) true) (a t k ∙ ap (is_then t) e)

  -- where it wasn't set
  pub first_agree : tree.get timer_cmp ids k ≡ None → Agree n jds
  first_agree none = settled m n ids jds k (Some at) (turned_elsewhere m n at k true up) (λ t. there t None none ∙ now (nat_eq at t) t refl) stands a
    where
      now : (b : Bool) (t : ℕ) → nat_eq at t ≡ b → cond b true false ≡ nat_eq t at
      now true t e = sym (turned_eq t at ∙ e)
      now false t e = sym (turned_eq t at ∙ e)

  -- where it was set to the same moment
  pub same_agree : tree.get timer_cmp ids k ≡ Some at → Agree n jds
  same_agree is = settled m n ids jds k (Some at) (turned_elsewhere m n at k true up) (λ t. there t (Some at) is ∙ now (nat_eq at t) t refl) stands a
    where
      now : (b : Bool) (t : ℕ) → nat_eq at t ≡ b → cond b true (nat_eq t at) ≡ nat_eq t at
      now true t e = sym (turned_eq t at ∙ e)
      now false t e = refl

  -- where it was set to another, which goes
  pub moved_agree : (u : Dues) (before : ℕ) → nat_eq before at ≡ false → Turns n before k false u
      → tree.get timer_cmp ids k ≡ Some before → Agree u jds
  moved_agree u before apart out is =
      settled m u ids jds k (Some at)
      (λ t j e. turned_elsewhere n u before k false out t j e ∙ turned_elsewhere m n at k true up t j e)
      (λ t. turned_here n u before k false out t ∙ ap (cond (nat_eq before t) false) (there t (Some before) is) ∙ now t (nat_eq before t) (nat_eq at t) refl refl) stands a
    where
      now : (t : ℕ) (b c : Bool) → nat_eq before t ≡ b → nat_eq at t ≡ c → cond b false (cond c true (nat_eq t before)) ≡ nat_eq t at
      now t true true e f = absurd (false≢true (sym apart ∙ grind (arith, e, f)))
      now t true false e f = sym (turned_eq t at ∙ f)
      now t false true e f = sym (turned_eq t at ∙ f)
      now t false false e f = turned_eq t before ∙ e ∙ sym (turned_eq t at ∙ f)

-- a growth that was taken back
pub restored : (m n u : Dues) (ids jds : Moments) → Agree m ids → (k : Timer) (at : ℕ) → Turns m at k true n → Turns n at k false u
    → tree.get timer_cmp ids k ≡ None → ((q : Timer) → tree.get timer_cmp jds q ≡ tree.get timer_cmp ids q) → Agree u jds
restored m n u ids jds a k at up down none same t j = back (same_timer k j) refl ∙ a t j ∙ ap (is_then t) (sym (same j))
  where
    here : (b : Bool) (t : ℕ) → nat_eq at t ≡ b → cond b false (cond b true (sorted.contains due_cmp m (due t k))) ≡ sorted.contains due_cmp m (due t k)
    here true t e = sym (a t k ∙ ap (is_then t) none)
    here false t e = refl

    back : (b : Bool) → same_timer k j ≡ b → sorted.contains due_cmp u (due t j) ≡ sorted.contains due_cmp m (due t j)
    back true e =
        subst (λ x. sorted.contains due_cmp u (due t x) ≡ sorted.contains due_cmp m (due t x)) (same_timer_is k j e)
        (turned_here n u at k false down t ∙ ap (cond (nat_eq at t) false) (turned_here m n at k true up t) ∙ here (nat_eq at t) t refl)
    back false e = turned_elsewhere n u at k false down t j e ∙ turned_elsewhere m n at k true up t j e

-- a timer goes
pub gone_agree : (m u : Dues) (ids jds : Moments) → Agree m ids → (k : Timer) (at : ℕ) → Turns m at k false u
    → tree.get timer_cmp ids k ≡ Some at → IsWithout timer_cmp ids.entries k jds.entries → Agree u jds
gone_agree m u ids jds a k at out is stands =
    settled m u ids jds k None (turned_elsewhere m u at k false out)
    (λ t. turned_here m u at k false out t ∙ ap (cond (nat_eq at t) false) (a t k ∙ ap (is_then t) is) ∙ now (nat_eq at t) t refl) stands a
  where
    now : (b : Bool) (t : ℕ) → nat_eq at t ≡ b → cond b false (nat_eq t at) ≡ false
    now true t e = refl
    now false t e = turned_eq t at ∙ e

-- ---- the first in the order

then_some : (t : ℕ) (o : Option ℕ) → is_then t o ≡ true → o ≡ Some t
then_some t None e = absurd (false≢true e)
then_some t (Some u) e = let is : u ≡ t = grind (arith, e) in ap Some is

-- it stands at its moment
pub its_moment : (m : Dues) (ids : Moments) → Agree m ids → (t : ℕ) (k : Timer) → sorted.contains due_cmp m (due t k) ≡ true → tree.get timer_cmp ids k ≡ Some t
its_moment m ids a t k in_order = then_some t (tree.get timer_cmp ids k) (sym (a t k) ∙ in_order)

not_after : (a b : ℕ) (o : Ordering) → is_gt (ordering_then (nat_cmp a b) o) ≡ false → a ≤ b
not_after a b o h = grind (arith, h)

-- each timer that is set stands in the order
pub stands_in : (m : Dues) (ids : Moments) → Agree m ids → (t : ℕ) (k : Timer) → finite.get (held_by {R = timer_cmp} ids.entries) k ≡ Some t → sorted.contains due_cmp m (due t k) ≡ true
stands_in m ids a t k e = a t k ∙ ap (is_then t) (sym (get-held_by timer_total ids.entries k) ∙ e) ∙ itself t

-- and none is due before the first
pub from_least : (m : Dues) (ids : Moments) → Agree m ids → (first : Due) → sorted.IsLowerBound due_cmp m first → IsFrom first.at (held_by ids.entries)
from_least m ids a first least k u e = not_after first.at u _ (least (due u k) (stands_in m ids a u k e))

found_in : (q : Due) (m : Dues) (ks : List Due) → m.keys ≡ ks → sorted.contains due_cmp m q ≡ true → 0 < length ks
found_in q m [] e h = absurd (false≢true (sym (ap (λ l. list_any (λ k. is_eq (due_cmp q k)) l) e) ∙ h))
found_in q m (k ∷ ks) e h = omega arith

-- where nothing stands in the order, no timer is set
pub none_set : (m : Dues) (ids : Moments) → Agree m ids → (0 < length m.keys → ⊥) → (k : Timer) → tree.get timer_cmp ids k ≡ None
none_set m ids a none k = by (tree.get timer_cmp ids k) refl
  where
    by : (o : Option ℕ) → tree.get timer_cmp ids k ≡ o → o ≡ None
    by None e = refl
    by (Some u) e = absurd (none (found_in (due u k) m m.keys refl (a u k ∙ ap (is_then u) e ∙ itself u)))

pub empty_of : (m : Dues) (ids : Moments) → Agree m ids → (0 < length m.keys → ⊥) → held_by {R = timer_cmp} ids.entries ≡ finite.empty
empty_of m ids a none =
    finite.same_map timer_total timer_exact (held_by ids.entries) finite.empty (λ q.
    get-held_by timer_total ids.entries q ∙ none_set m ids a none q ∙ sym (finite.get-empty timer_cmp q))

pub later_of_none : (m : Dues) (ids : Moments) → Agree m ids → (0 < length m.keys → ⊥) → (t : ℕ) → IsLaterThan t (held_by ids.entries)
later_of_none m ids a none t k u e = cc (sym (get-held_by timer_total ids.entries k ∙ none_set m ids a none k) ∙ e)
