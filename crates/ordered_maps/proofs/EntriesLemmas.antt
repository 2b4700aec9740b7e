-- The ends of an ordered map's entries, and of those that a test lets through.
use Rattle.std.proofs.Common.{◌≡◌, ◌∷◌, ◌++◌, [], List, Bool, true, false, not, cond, refl, sym, ◌∙◌, ap, subst, ℕ, ◌+◌, Some, None, get_or, take, length}
use Rattle.std.specs.declared.cmp.Ordering.{Ordering}
use Rattle.std.specs.declared.cmp.Ordering.TheVariants.{Less, Equal, Greater}
use Rattle.std.specs.declared.ops.Bound.TheVariants.{Included}
use Rattle.std.specs.Ordering.{eq_by_cmp, is_eq, is_le, is_lt, is_gt, ordering_reverse}
use Rattle.std.specs.Cmp.{IsTotalOrder, Equal-is, alike_right}
use Rattle.std.specs.Option.{IsSome}
use Rattle.std.specs.List.{AllByRecursion, filter, slice_get}
use Rattle.std.specs.List.Sorted.{IsStrictlySortedBy}
use Rattle.std.specs.Map.{keys_of}
use Rattle.std.proofs.lemmas.Cmp.{tied_itself}
use Rattle.std.proofs.lemmas.Map.Keys.{sorted_head, sorted_tail}
use Rattle.ordered_maps.specs.MapView.{AreOrdered, get}
use Rattle.ordered_maps.specs.Ends.{IsLeast, IsGreatest, IsLastBefore}
use Rattle.ordered_maps.specs.Pages.{entries_of}
use Rattle.ordered_maps.specs.Parts.{stands_before}
use Rattle.ordered_maps.proofs.ElementLemmas.{all_right, all_so, all_of_keys}
use Rattle.ordered_maps.proofs.PartLemmas.{true_or_false, flat_map_end}

module _ {X : Type 0} (test : X → Bool) where
  all_filtered : (P : X → Type 0) (xs : List X) → AllByRecursion P xs → AllByRecursion P (filter test xs)
  all_filtered P [] h = tt
  all_filtered P (x ∷ xs) h = true_or_false (test x)
      (λ t. subst (λ b. AllByRecursion P (cond b (x ∷ filter test xs) (filter test xs))) (sym t) (h.0, all_filtered P xs h.1))
      (λ f. subst (λ b. AllByRecursion P (cond b (x ∷ filter test xs) (filter test xs))) (sym f) (all_filtered P xs h.1))

  all_pass : (xs : List X) → AllByRecursion (λ x. test x ≡ true) (filter test xs)
  all_pass [] = tt
  all_pass (x ∷ xs) = true_or_false (test x)
      (λ t. subst (λ b. AllByRecursion (λ y. test y ≡ true) (cond b (x ∷ filter test xs) (filter test xs))) (sym t) (t, all_pass xs))
      (λ f. subst (λ b. AllByRecursion (λ y. test y ≡ true) (cond b (x ∷ filter test xs) (filter test xs))) (sym f) (all_pass xs))

  -- what holds of all that pass holds of each that passes
  of_each_passing : (P : X → Type 0) (xs : List X) → AllByRecursion P (filter test xs) → AllByRecursion (λ x. test x ≡ true → P x) xs
  of_each_passing P [] h = tt
  of_each_passing P (x ∷ xs) h = true_or_false (test x)
      (λ t. let k : AllByRecursion P (x ∷ filter test xs) = subst (λ b. AllByRecursion P (cond b (x ∷ filter test xs) (filter test xs))) t h in (λ _. k.0, of_each_passing P xs k.1))
      (λ f. (λ t. absurd (cc), of_each_passing P xs (subst (λ b. AllByRecursion P (cond b (x ∷ filter test xs) (filter test xs))) f h)))

keys_so : {K X : Type 0} (P : K → Type 0) (es : List (K × X)) → AllByRecursion (λ e. P e.0) es → AllByRecursion P (keys_of es)
keys_so P [] h = tt
keys_so P (e ∷ es) h = (h.0, keys_so P es h.1)

keys_filtered : {K X : Type 0} (R : K → K → Ordering) (test : K × X → Bool) (es : List (K × X)) → AreOrdered R es → AreOrdered R (filter test es)
unfolding IsStrictlySortedBy
keys_filtered R test [] s = tt
keys_filtered R test (e ∷ es) s = true_or_false (test e)
    (λ t. subst (λ b. AreOrdered R (cond b (e ∷ filter test es) (filter test es))) (sym t) (
      keys_so (λ y. R e.0 y ≡ Less) (filter test es) (all_filtered test (λ f. R e.0 f.0 ≡ Less) es (all_of_keys (λ y. R e.0 y ≡ Less) es s.0)),
      keys_filtered R test es s.1,
    ))
    (λ f. subst (λ b. AreOrdered R (cond b (e ∷ filter test es) (filter test es))) (sym f) (keys_filtered R test es s.1))

module _ {K : Type 0} {R : K → K → Ordering} (o : IsTotalOrder R) where
  below_flips : (x y : K) → R x y ≡ Less → R y x ≡ Greater
  below_flips x y l = o.antisymm y x ∙ ap ordering_reverse l

  above_flips : (x y : K) → R x y ≡ Greater → R y x ≡ Less
  above_flips x y g = o.antisymm y x ∙ ap ordering_reverse g

module _ {K X : Type 0} {R : K → K → Ordering} (o : IsTotalOrder R) where
  -- a key that is found is equal to one of the entries'
  found : (P : K × X → Type 0) (q : K) (es : List (K × X)) → AllByRecursion P es → IsSome (get R es q) → (e : K × X) × (R q e.0 ≡ Equal) × P e
  found P q [] h is = absurd (cc)
  found P q (e ∷ es) h is = true_or_false (eq_by_cmp R q e.0)
      (λ t. (e, (Equal-is (R q e.0)).0 t, h.0))
      (λ f. found P q es h.1 (subst (λ b. IsSome (cond b (Some e.1) (get R es q))) f is))

  -- each entry is found by its key
  each_found : (es : List (K × X)) → AreOrdered R es → AllByRecursion (λ e. get R es e.0 ≡ Some e.1) es
  each_found [] s = tt
  each_found (x ∷ es) s = (
    ap (λ r. cond (is_eq r) (Some x.1) (get R es x.0)) (tied_itself o x.0),
    further es es (all_of_keys (λ y. R x.0 y ≡ Less) es (sorted_head R x.0 (keys_of es) s)) (each_found es (sorted_tail R x.0 (keys_of es) s)),
  )
    where
      further : (all fs : List (K × X)) → AllByRecursion (λ f. R x.0 f.0 ≡ Less) fs → AllByRecursion (λ f. get R all f.0 ≡ Some f.1) fs → AllByRecursion (λ f. get R (x ∷ all) f.0 ≡ Some f.1) fs
      further all [] l h = tt
      further all (f ∷ fs) l h = (ap (λ r. cond (is_eq r) (Some x.1) (get R all f.0)) (below_flips o x.0 f.0 l.0) ∙ h.0, further all fs l.1 h.1)

  pub least : (es : List (K × X)) (e : K × X) → slice_get es 0 ≡ Some e → AreOrdered R es → IsLeast R e es
  least [] e is s = absurd (cc)
  least (x ∷ es) e is s = subst (λ f. IsLeast R f (x ∷ es)) (let same : x ≡ e = cc in same) (record {
    value = (each_found (x ∷ es) s).0;
    below = λ q is_in. let f = found (λ f. is_gt (R x.0 f.0) ≡ false) q (x ∷ es) (ap is_gt (tied_itself o x.0), all_so (λ f l. ap is_gt l) es (all_of_keys (λ y. R x.0 y ≡ Less) es (sorted_head R x.0 (keys_of es) s))) is_in in
        ap is_gt (alike_right o q f.0.0 x.0 f.1) ∙ f.2;
  })

  -- no key is above the last
  none_above : (es : List (K × X)) (e : K × X) → AreOrdered R (es ++ e ∷ []) → AllByRecursion (λ f. is_lt (R e.0 f.0) ≡ false) (es ++ e ∷ [])
  none_above [] e s = (ap is_lt (tied_itself o e.0), tt)
  none_above (x ∷ es) e s = (
    ap is_lt (below_flips o x.0 e.0 (all_right (λ f. R x.0 f.0 ≡ Less) es (e ∷ []) (all_of_keys (λ y. R x.0 y ≡ Less) (es ++ e ∷ []) (sorted_head R x.0 (keys_of (es ++ e ∷ [])) s))).0),
    none_above es e (sorted_tail R x.0 (keys_of (es ++ e ∷ [])) s),
  )

  greatest_last : (es : List (K × X)) (e : K × X) → AreOrdered R (es ++ e ∷ []) → IsGreatest R e (es ++ e ∷ [])
  greatest_last es e s = record {
    value = (all_right (λ f. get R (es ++ e ∷ []) f.0 ≡ Some f.1) es (e ∷ []) (each_found (es ++ e ∷ []) s)).0;
    above = λ q is_in. let f = found (λ f. is_lt (R e.0 f.0) ≡ false) q (es ++ e ∷ []) (none_above es e s) is_in in
        ap is_lt (alike_right o q f.0.0 e.0 f.1) ∙ f.2;
  }

  pub greatest : (pages : List (List (K × X))) (page : List (K × X)) (e : K × X) (m n : ℕ) → m + 1 ≡ length pages → page ≡ get_or pages m page → n + 1 ≡ length page → e ≡ get_or page n e → AreOrdered R (entries_of pages) → IsGreatest R e (entries_of pages)
  greatest pages page e m n lm pm ln en s =
      let up = flat_map_end pages page e m n lm pm ln en in
      subst (IsGreatest R e) (sym up) (greatest_last (entries_of (take m pages) ++ take n page) e (subst (AreOrdered R) up s))

  module _ (k : K) (es : List (K × X)) where
    stands_below : (q : K) (x : X) → stands_before R (Included k) (q, x) ≡ true → R q k ≡ Less
    stands_below q x = elim (R k q) as (λ r. R k q ≡ r → not (is_le r) ≡ true → R q k ≡ Less) [
      | Less ↦ λ e t. absurd (cc)
      | Equal ↦ λ e t. absurd (cc)
      | Greater ↦ λ e t. above_flips o k q e
    ] refl

    below_stands : (q f : K) → R q f ≡ Equal → R q k ≡ Less → not (is_le (R k f)) ≡ true
    below_stands q f t l = ap (λ r. not (is_le r)) (below_flips o f k (sym (o.congr q f k t) ∙ l))

    none_found : (q : K) → (IsSome (get R es q) → ⊥) → get R es q ≡ None
    none_found q n = elim (get R es q) as (λ r. (IsSome r → ⊥) → r ≡ None) [ None ↦ λ _. refl | Some v ↦ λ n. absurd (n refl) ] n

    pub none_before : filter (stands_before R (Included k)) es ≡ [] → IsLastBefore R k es None
    none_before is q l = none_found q (λ is_in.
        let f = found (λ f. stands_before R (Included k) f ≡ true → ⊥) q es (of_each_passing (stands_before R (Included k)) (λ _. ⊥) es (subst (AllByRecursion (λ _. ⊥)) (sym is) tt)) is_in in
        f.2 (below_stands q f.0.0 f.1 l))

    pub last_before : (fs : List (K × X)) (e : K × X) → AreOrdered R es → filter (stands_before R (Included k)) es ≡ fs ++ e ∷ [] → IsLastBefore R k es (Some e)
    last_before fs e s is =
        let test = stands_before R (Included k) in (
          stands_below e.0 e.1 (all_right (λ f. test f ≡ true) fs (e ∷ []) (subst (AllByRecursion (λ f. test f ≡ true)) is (all_pass test es))).0,
          (all_right (λ f. get R es f.0 ≡ Some f.1) fs (e ∷ []) (subst (AllByRecursion (λ f. get R es f.0 ≡ Some f.1)) is (all_filtered test (λ f. get R es f.0 ≡ Some f.1) es (each_found es s)))).0,
          λ q l is_in.
              let f = found (λ f. test f ≡ true → is_lt (R e.0 f.0) ≡ false) q es (of_each_passing test (λ f. is_lt (R e.0 f.0) ≡ false) es (subst (AllByRecursion (λ f. is_lt (R e.0 f.0) ≡ false)) (sym is) (none_above fs e (subst (AreOrdered R) is (keys_filtered R test es s))))) is_in in
              ap is_lt (alike_right o q f.0.0 e.0 f.1) ∙ f.2 (below_stands q f.0.0 f.1 l),
        )

-- ---- keys one after another, from the last on
pub keys_with_last : {K X : Type 0} (es : List (K × X)) (e : K × X) → keys_of (es ++ e ∷ []) ≡ keys_of es ++ e.0 ∷ []
keys_with_last [] e = refl
keys_with_last (x ∷ es) e = ap (λ ks. x.0 ∷ ks) (keys_with_last es e)

module _ {K : Type 0} (R : K → K → Ordering) where
  pub sorted_none : IsStrictlySortedBy R []
  unfolding IsStrictlySortedBy
  sorted_none = tt

  pub sorted_one : (k : K) → IsStrictlySortedBy R (k ∷ [])
  unfolding IsStrictlySortedBy
  sorted_one k = (tt, tt)

pub sorted_with_first : {K : Type 0} {R : K → K → Ordering} → IsTotalOrder R → (k l : K) (ks : List K) → R k l ≡ Less → IsStrictlySortedBy R (l ∷ ks) → IsStrictlySortedBy R (k ∷ l ∷ ks)
unfolding IsStrictlySortedBy
sorted_with_first o k l ks less s = ((less, all_so (λ m below. o.trans k l m less below) ks s.0), s)
