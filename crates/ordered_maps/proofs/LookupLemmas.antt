-- What a key finds in entries that are ordered, and where it stands.
use Rattle.std.proofs.Common.{◌≡◌, Bool, true, false, true≢false, cond, List, [], ◌∷◌, ◌++◌, Option, Some, None, IsSome, refl, sym, ap, subst, ◌∙◌, append-nil, is_gt, is_lt, is_some}
use Rattle.std.specs.declared.cmp.Ordering.{Ordering}
use Rattle.std.specs.declared.cmp.Ordering.TheVariants.{Less, Equal, Greater}
use Rattle.std.specs.Ordering.{eq_by_cmp, is_eq, ordering_reverse}
use Rattle.std.specs.Cmp.{IsTotalOrder, eq_by_cmp_equiv}
use Rattle.std.specs.List.{AllByRecursion}
use Rattle.std.specs.List.Sorted.{IsStrictlySortedBy}
use Rattle.std.specs.Map.{keys_of, lookup}
use Rattle.std.specs.BTreeMap.{is_at}
use Rattle.std.proofs.lemmas.Cmp.{tied_itself, tied_back, alike_right}
use Rattle.std.proofs.lemmas.Map.{NonePasses, lookup-none}
use Rattle.ordered_maps.specs.MapView.{get, AreOrdered, IsSetTo, IsWith, IsWithout}
use Rattle.ordered_maps.specs.Ends.{IsGreatest}
use Rattle.ordered_maps.specs.Places.{AreBelow, AreAbove}
use Rattle.ordered_maps.proofs.ElementLemmas.{all_so}

-- ---- a look-up in two lists, one behind the other

module _ {K X : Type 0} (test : K → Bool) where
  lookup_behind : (l r : List (K × X)) → NonePasses test l → lookup test (l ++ r) ≡ lookup test r
  lookup_behind [] r n = refl
  lookup_behind (e ∷ l) r n = ap (λ b. cond b (Some e.1) (lookup test (l ++ r))) n.0 ∙ lookup_behind l r n.1

  lookup_beside : (l : List (K × X)) (e : K × X) (r : List (K × X)) → test e.0 ≡ false → lookup test (l ++ e ∷ r) ≡ lookup test (l ++ r)
  lookup_beside [] e r n = ap (λ b. cond b (Some e.1) (lookup test r)) n
  lookup_beside (f ∷ l) e r n = ap (cond (test f.0) (Some f.1)) (lookup_beside l e r n)

  lookup_here : (l : List (K × X)) (e : K × X) (r : List (K × X)) → NonePasses test l → test e.0 ≡ true → lookup test (l ++ e ∷ r) ≡ Some e.1
  lookup_here l e r n y = lookup_behind l (e ∷ r) n ∙ ap (λ b. cond b (Some e.1) (lookup test r)) y

module _ {K X : Type 0} (R : K → K → Ordering) where
  keys_append : (l r : List (K × X)) → keys_of (l ++ r) ≡ keys_of l ++ keys_of r
  keys_append [] r = refl
  keys_append (e ∷ l) r = ap (λ ks. e.0 ∷ ks) (keys_append l r)

  -- a value was written over another
  pub ordered_written : (l : List (K × X)) (k : K) (v w : X) (r : List (K × X)) → AreOrdered R (l ++ (k, v) ∷ r) → AreOrdered R (l ++ (k, w) ∷ r)
  ordered_written l k v w r = subst (IsStrictlySortedBy R) (keys_append l ((k, v) ∷ r) ∙ sym (keys_append l ((k, w) ∷ r)))

-- ---- keys that two others compare alike, or in turn

module _ {K : Type 0} {R : K → K → Ordering} (o : IsTotalOrder R) where
  pub above_from_below : (x y : K) → R x y ≡ Less → R y x ≡ Greater
  above_from_below x y l = o.antisymm y x ∙ ap ordering_reverse l

  pub below_from_above : (x y : K) → R x y ≡ Greater → R y x ≡ Less
  below_from_above x y g = o.antisymm y x ∙ ap ordering_reverse g

  less_upto : (x y z : K) → R x y ≡ Less → is_gt (R y z) ≡ false → R x z ≡ Less
  less_upto x y z l n = by (R y z) refl n
    where
      by : (r : Ordering) → R y z ≡ r → is_gt r ≡ false → R x z ≡ Less
      by Less e n = o.trans x y z l e
      by Equal e n = sym (alike_right o y z x e) ∙ l
      by Greater e n = absurd (true≢false n)

module _ {K X : Type 0} {R : K → K → Ordering} (o : IsTotalOrder R) where
  pub below_tied : (es : List (K × X)) (j k : K) → R j k ≡ Equal → AreBelow R j es → AreBelow R k es
  below_tied es j k t = all_so {P = (λ e. R e.0 j ≡ Less)} {Q = (λ e. R e.0 k ≡ Less)} (λ e l. sym (alike_right o j k e.0 t) ∙ l) es

  pub above_tied : (es : List (K × X)) (j k : K) → R j k ≡ Equal → AreAbove R j es → AreAbove R k es
  above_tied es j k t = all_so {P = (λ e. R e.0 j ≡ Greater)} {Q = (λ e. R e.0 k ≡ Greater)} (λ e l. sym (alike_right o j k e.0 t) ∙ l) es

  pub below_upto : (es : List (K × X)) (j k : K) → is_gt (R j k) ≡ false → AreBelow R j es → AreBelow R k es
  below_upto es j k n = all_so {P = (λ e. R e.0 j ≡ Less)} {Q = (λ e. R e.0 k ≡ Less)} (λ e l. less_upto o e.0 j k l n) es

  pub above_from : (es : List (K × X)) (j k : K) → R j k ≡ Greater → AreAbove R j es → AreAbove R k es
  above_from es j k g = all_so {P = (λ e. R e.0 j ≡ Greater)} {Q = (λ e. R e.0 k ≡ Greater)} (λ e l. above_from_below o k e.0 (o.trans k j e.0 (below_from_above o j k g) (below_from_above o e.0 j l))) es

  -- ---- no entry of some is at a key

  none_at : (es : List (K × X)) (k q : K) → R k q ≡ Equal → AllByRecursion (λ e. is_eq (R e.0 k) ≡ false) es → NonePasses (is_at (R q)) es
  none_at es k q t = all_so {P = (λ e. is_eq (R e.0 k) ≡ false)} {Q = (λ e. is_eq (R q e.0) ≡ false)} (λ e n. (eq_by_cmp_equiv o).symm q e.0 ∙ ap is_eq (sym (alike_right o k q e.0 t)) ∙ n) es

  none_below : (es : List (K × X)) (k q : K) → R k q ≡ Equal → AreBelow R k es → NonePasses (is_at (R q)) es
  none_below es k q t a = none_at es k q t (all_so {P = (λ e. R e.0 k ≡ Less)} {Q = (λ e. is_eq (R e.0 k) ≡ false)} (λ e l. ap is_eq l) es a)

  pub none_above : (es : List (K × X)) (k q : K) → R k q ≡ Equal → AreAbove R k es → NonePasses (is_at (R q)) es
  none_above es k q t a = none_at es k q t (all_so {P = (λ e. R e.0 k ≡ Greater)} {Q = (λ e. is_eq (R e.0 k) ≡ false)} (λ e l. ap is_eq l) es a)

  -- ---- parts of entries that are ordered

  head_below : (k : K) (l r : List (K × X)) → AllByRecursion (λ y. R k y ≡ Less) (keys_of (l ++ r)) → AllByRecursion (λ y. R k y ≡ Less) (keys_of r)
  head_below k [] r a = a
  head_below k (e ∷ l) r a = head_below k l r a.1

  pub keys_above : (k : K) (es : List (K × X)) → AllByRecursion (λ y. R k y ≡ Less) (keys_of es) → AreAbove R k es
  keys_above k [] a = tt
  keys_above k (e ∷ es) a = (above_from_below o k e.0 a.0, keys_above k es a.1)

  above_keys : (k : K) (es : List (K × X)) → AreAbove R k es → AllByRecursion (λ y. R k y ≡ Less) (keys_of es)
  above_keys k [] a = tt
  above_keys k (e ∷ es) a = (below_from_above o e.0 k a.0, above_keys k es a.1)

  -- the entries around one
  pub ordered_below : (l : List (K × X)) (e : K × X) (r : List (K × X)) → AreOrdered R (l ++ e ∷ r) → AreBelow R e.0 l
  unfolding IsStrictlySortedBy
  ordered_below [] e r s = tt
  ordered_below (f ∷ l) e r s = ((head_below f.0 l (e ∷ r) s.0).0, ordered_below l e r s.1)

  pub ordered_above : (l : List (K × X)) (e : K × X) (r : List (K × X)) → AreOrdered R (l ++ e ∷ r) → AreAbove R e.0 r
  unfolding IsStrictlySortedBy
  ordered_above [] e r s = keys_above e.0 r s.0
  ordered_above (f ∷ l) e r s = ordered_above l e r s.1

  insert_keys : (k j : K) (v : X) (l r : List (K × X)) → R k j ≡ Less → AllByRecursion (λ y. R k y ≡ Less) (keys_of (l ++ r)) → AllByRecursion (λ y. R k y ≡ Less) (keys_of (l ++ (j, v) ∷ r))
  insert_keys k j v [] r h a = (h, a)
  insert_keys k j v (e ∷ l) r h a = (a.0, insert_keys k j v l r h a.1)

  pub ordered_put : (l : List (K × X)) (k : K) (v : X) (r : List (K × X)) → AreOrdered R (l ++ r) → AreBelow R k l → AreAbove R k r → AreOrdered R (l ++ (k, v) ∷ r)
  unfolding IsStrictlySortedBy
  ordered_put [] k v r s b a = (above_keys k r a, s)
  ordered_put (e ∷ l) k v r s b a = (insert_keys e.0 k v l r b.0 s.0, ordered_put l k v r s.1 b.1 a)

  remove_keys : (k : K) (e : K × X) (l r : List (K × X)) → AllByRecursion (λ y. R k y ≡ Less) (keys_of (l ++ e ∷ r)) → AllByRecursion (λ y. R k y ≡ Less) (keys_of (l ++ r))
  remove_keys k e [] r a = a.1
  remove_keys k e (f ∷ l) r a = (a.0, remove_keys k e l r a.1)

  pub ordered_out : (l : List (K × X)) (e : K × X) (r : List (K × X)) → AreOrdered R (l ++ e ∷ r) → AreOrdered R (l ++ r)
  unfolding IsStrictlySortedBy
  ordered_out [] e r s = s.1
  ordered_out (f ∷ l) e r s = (remove_keys f.0 e l r s.0, ordered_out l e r s.1)

  -- ---- what a key finds

  -- an entry that is held
  pub found : (l : List (K × X)) (e : K × X) (r : List (K × X)) (k : K) → AreOrdered R (l ++ e ∷ r) → R e.0 k ≡ Equal → get R (l ++ e ∷ r) k ≡ Some e.1
  found l e r k s t = lookup_here (is_at (R k)) l e r (none_below l e.0 k t (ordered_below l e r s)) (ap is_eq (tied_back o e.0 k t))

  -- where none is
  pub missed : (l r : List (K × X)) (k q : K) → R k q ≡ Equal → AreBelow R k l → AreAbove R k r → get R (l ++ r) q ≡ None
  missed l r k q t b a = lookup_behind (is_at (R q)) l r (none_below l k q t b) ∙ lookup-none (is_at (R q)) r (none_above r k q t a)

  -- ---- a change at a key

  set_to : (old : List (K × X)) (k : K) (v : Option X) (new : List (K × X)) → ((q : K) → R k q ≡ Equal → get R new q ≡ v) → ((q : K) → eq_by_cmp R k q ≡ false → get R new q ≡ get R old q) → IsSetTo R old k v new
  set_to old k v new here there q = by (R k q) refl
    where
      by : (r : Ordering) → R k q ≡ r → get R new q ≡ cond (eq_by_cmp R k q) v (get R old q)
      by Less e = there q (ap is_eq e) ∙ ap (λ s. cond (is_eq s) v (get R old q)) (sym e)
      by Equal e = here q e ∙ ap (λ s. cond (is_eq s) v (get R old q)) (sym e)
      by Greater e = there q (ap is_eq e) ∙ ap (λ s. cond (is_eq s) v (get R old q)) (sym e)

  -- an entry stands beside a key that isn't its own
  beside : (l : List (K × X)) (e : K × X) (r : List (K × X)) (k q : K) → R e.0 k ≡ Equal → eq_by_cmp R k q ≡ false → get R (l ++ e ∷ r) q ≡ get R (l ++ r) q
  beside l e r k q t n = lookup_beside (is_at (R q)) l e r ((eq_by_cmp_equiv o).symm q e.0 ∙ ap is_eq (o.congr e.0 k q t) ∙ n)

  pub put_between : (l : List (K × X)) (k : K) (v : X) (r : List (K × X)) → AreBelow R k l → IsWith R (l ++ r) k v (l ++ (k, v) ∷ r)
  put_between l k v r b = set_to (l ++ r) k (Some v) (l ++ (k, v) ∷ r)
      (λ q t. lookup_here (is_at (R q)) l (k, v) r (none_below l k q t b) (ap is_eq (tied_back o k q t)))
      (λ q n. beside l (k, v) r k q (tied_itself o k) n)

  pub written_over : (l : List (K × X)) (j k : K) (v w : X) (r : List (K × X)) → AreOrdered R (l ++ (j, v) ∷ r) → R j k ≡ Equal → IsWith R (l ++ (j, v) ∷ r) k w (l ++ (j, w) ∷ r)
  written_over l j k v w r s t = set_to (l ++ (j, v) ∷ r) k (Some w) (l ++ (j, w) ∷ r)
      (λ q u. found l (j, w) r q (ordered_written R l j v w r s) (o.congr j k q t ∙ u))
      (λ q n. beside l (j, w) r k q t n ∙ sym (beside l (j, v) r k q t n))

  pub taken_out : (l : List (K × X)) (e : K × X) (r : List (K × X)) (k : K) → AreOrdered R (l ++ e ∷ r) → R e.0 k ≡ Equal → IsWithout R (l ++ e ∷ r) k (l ++ r)
  taken_out l e r k s t = set_to (l ++ e ∷ r) k None (l ++ r)
      (λ q u. missed l r k q u (below_tied l e.0 k t (ordered_below l e r s)) (above_tied r e.0 k t (ordered_above l e r s)))
      (λ q n. sym (beside l e r k q t n))

  pub not_held : (l r : List (K × X)) (k : K) → AreBelow R k l → AreAbove R k r → IsWithout R (l ++ r) k (l ++ r)
  not_held l r k b a = set_to (l ++ r) k None (l ++ r) (λ q t. missed l r k q t b a) (λ q n. refl)

  -- ---- the last entry

  none_greater : (es : List (K × X)) (j q : K) → AreBelow R j es → R j q ≡ Less → get R es q ≡ None
  none_greater es j q b l = lookup-none (is_at (R q)) es (all_so {P = (λ e. R e.0 j ≡ Less)} {Q = (λ e. is_eq (R q e.0) ≡ false)} (λ e m. ap is_eq (above_from_below o e.0 q (o.trans e.0 j q m l))) es b)

  pub greatest : (l : List (K × X)) (e : K × X) → AreOrdered R (l ++ e ∷ []) → IsGreatest R e (l ++ e ∷ [])
  greatest l e s = record {
    value = found l e [] e.0 s (tied_itself o e.0);
    above = λ q h. by q h (R e.0 q) refl;
  }
    where
      gone : (q : K) → R e.0 q ≡ Less → get R (l ++ e ∷ []) q ≡ None
      gone q r = lookup_beside (is_at (R q)) l e [] (ap is_eq (above_from_below o e.0 q r)) ∙ ap (λ es. get R es q) (append-nil l) ∙ none_greater l e.0 q (ordered_below l e [] s) r

      by : (q : K) → IsSome (get R (l ++ e ∷ []) q) → (r : Ordering) → R e.0 q ≡ r → is_lt (R e.0 q) ≡ false
      by q h Less r = let n = gone q r in absurd (true≢false (sym h ∙ ap is_some n))
      by q h Equal r = ap is_lt r
      by q h Greater r = ap is_lt r
