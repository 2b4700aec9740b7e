-- The entries of a finite map as members of a list.
use Rattle.std.proofs.Common.{◌≡◌, Bool, true, false, cond, ◌&&◌, Some, List, [], ◌∷◌, map, T, refl, sym, ◌∙◌, ap, subst, ⊎_elim, inl, inr}
use Rattle.std.specs.declared.cmp.Ordering.{Ordering}
use Rattle.std.specs.declared.cmp.Ordering.TheVariants.{Less, Equal, Greater}
use Rattle.std.proofs.lemmas.Bool.{false≢true}
use Rattle.std.specs.Ordering.{is_lt, is_eq, eq_by_cmp, ordering_reverse}
use Rattle.std.specs.Cmp.{IsTotalOrder, Equal-is}
use Rattle.std.proofs.lemmas.Cmp.{tied_itself}
use Rattle.std.proofs.lemmas.Map.Lookups.{CmpEqualImpliesEq}
use Rattle.std.specs.List.{AllByRecursion}
use Rattle.std.specs.List.Sorted.{IsStrictlySortedBy}
use Rattle.std.specs.FinMap.{FinMap, find, is_sorted, entries, entries_sorted, from_entries, get, get-entries, get-from_entries, values}
use Rattle.std.specs.FinMap.Entries.{below_all}
use Rattle.chat_history.specs.Choice.{Among}

first : (a b : Bool) → T (a && b) → T a
first true b p = tt
first false b p = p

second : (a b : Bool) → T (a && b) → T b
second true b p = p
second false b p = absurd p

pub less : (r : Ordering) → T (is_lt r) → r ≡ Less
less Less p = refl
less Equal p = absurd p
less Greater p = absurd p

pub apart : {K : Type 0} {R : K → K → Ordering} → IsTotalOrder R → (x q : K) → R x q ≡ Less → eq_by_cmp R q x ≡ false
apart o x q l = ap is_eq (o.antisymm q x ∙ ap ordering_reverse l)

module _ {K X : Type 0} {R : K → K → Ordering} (o : IsTotalOrder R) (exact : CmpEqualImpliesEq R) where
  -- what is found is an entry
  pub found : (q : K) (v : X) (es : List (K × X)) → find R q es ≡ Some v → Among (q, v) es
  found q v [] h = cc
  found q v (e ∷ es) h =
      elim (eq_by_cmp R q e.0) as (λ b. eq_by_cmp R q e.0 ≡ b → cond b (Some e.1) (find R q es) ≡ Some v → Among (q, v) (e ∷ es)) [
        | true ↦ λ t h. let k : q ≡ e.0 = exact q e.0 ((Equal-is (R q e.0)).0 t) in let x : e.1 ≡ v = cc in inl (λ i. (sym k i, x i))
        | false ↦ λ t h. inr (found q v es h)
      ] refl h

  -- an entry is found, where no other has its key
  pub found_only : (q : K) (v : X) (es : List (K × X)) → Among (q, v) es → ((w : X) → Among (q, w) es → w ≡ v) → find R q es ≡ Some v
  found_only q v [] m only = absurd m
  found_only q v (e ∷ es) m only =
      elim (eq_by_cmp R q e.0) as (λ b. eq_by_cmp R q e.0 ≡ b → cond b (Some e.1) (find R q es) ≡ Some v) [
        | true ↦ λ t. let k : e.0 ≡ q = sym (exact q e.0 ((Equal-is (R q e.0)).0 t)) in ap Some (only e.1 (inl (λ i. (k i, e.1))))
        | false ↦ λ t. ⊎_elim
            (λ s. absurd (false≢true (sym t ∙ ap is_eq (ap (λ (x : K × X). R q x.0) s ∙ tied_itself o q))))
            (λ a. found_only q v es a (λ w n. only w (inr n))) m
      ] refl

  above : (x q : K) (v : X) (es : List (K × X)) → T (below_all R x es) → Among (q, v) es → R x q ≡ Less
  above x q v [] h m = absurd m
  above x q v (e ∷ es) h m =
      ⊎_elim (λ s. ap (λ (y : K × X). R x y.0) (sym s) ∙ less (R x e.0) (first _ _ h)) (λ a. above x q v es (second _ _ h) a) m

  -- an entry of a sorted list is found
  pub found_sorted : (q : K) (v : X) (es : List (K × X)) → T (is_sorted R es) → Among (q, v) es → find R q es ≡ Some v
  found_sorted q v [] h m = absurd m
  found_sorted q v (e ∷ es) h m = ⊎_elim
      (λ s. ap (λ b. cond b (Some e.1) (find R q es)) (ap is_eq (ap (λ (y : K × X). R q y.0) s ∙ tied_itself o q)) ∙ ap (λ (y : K × X). Some y.1) s)
      (λ a. ap (λ b. cond b (Some e.1) (find R q es)) (apart o e.0 q (above e.0 q v es (first _ _ h) a)) ∙ found_sorted q v es (second _ _ h) a) m

  pub got : (m : FinMap R X) (q : K) (v : X) → get m q ≡ Some v → Among (q, v) (entries m)
  got m q v e = found q v (entries m) (sym (get-entries m q) ∙ e)

  pub get_entry : (m : FinMap R X) (q : K) (v : X) → Among (q, v) (entries m) → get m q ≡ Some v
  get_entry m q v a = get-entries m q ∙ found_sorted q v (entries m) (entries_sorted m) a

-- ---- values

module _ {K X : Type 0} where
  pub valued : (es : List (K × X)) (v : X) → Among v (map (λ (e : K × X). e.1) es) → (k : K) × Among (k, v) es
  valued [] v m = absurd m
  valued (e ∷ es) v m = ⊎_elim (λ s. (e.0, inl (λ i. (e.0, s i)))) (λ a. let r = valued es v a in (r.0, inr r.1)) m

  pub value_among : (es : List (K × X)) (k : K) (v : X) → Among (k, v) es → Among v (map (λ (e : K × X). e.1) es)
  value_among [] k v m = absurd m
  value_among (e ∷ es) k v m = ⊎_elim (λ s. inl (ap (λ (x : K × X). x.1) s)) (λ a. inr (value_among es k v a)) m

  all_below : (R : K → K → Ordering) (key : X → K) (x : K) (es : List (K × X)) → T (below_all R x es) → AllByRecursion (λ e. key e.1 ≡ e.0) es → AllByRecursion (λ v. R x (key v) ≡ Less) (map (λ (e : K × X). e.1) es)
  all_below R key x [] h k = tt
  all_below R key x (e ∷ es) h k = (ap (R x) k.0 ∙ less (R x e.0) (first _ _ h), all_below R key x es (second _ _ h) k.1)

  -- where each value stands under its key, the values are sorted by it
  pub sorted_values : (R : K → K → Ordering) (key : X → K) (es : List (K × X)) → T (is_sorted R es) → AllByRecursion (λ e. key e.1 ≡ e.0) es → IsStrictlySortedBy (λ v w. R (key v) (key w)) (map (λ (e : K × X). e.1) es)
  unfolding IsStrictlySortedBy
  sorted_values R key [] h k = tt
  sorted_values R key (e ∷ es) h k = (
    subst (λ x. AllByRecursion (λ v. R x (key v) ≡ Less) (map (λ (e : K × X). e.1) es)) (sym k.0) (all_below R key e.0 es (first _ _ h) k.1),
    sorted_values R key es (second _ _ h) k.1,
  )

-- ---- values put in the order of a key

all_entries : {A : Type 0} (P : A → Type 0) (xs : List A) → ((x : A) → Among x xs → P x) → AllByRecursion P xs
all_entries P [] h = tt
all_entries P (x ∷ xs) h = (h x (inl refl), all_entries P xs (λ y m. h y (inr m)))

module _ {K X : Type 0} {R : K → K → Ordering} (o : IsTotalOrder R) (exact : CmpEqualImpliesEq R) (key : X → K) where
  keyed_among : (xs : List X) (x : X) → Among x xs → Among {A = K × X} (key x, x) (map (λ (x : X). (key x, x)) xs)
  keyed_among [] x m = absurd m
  keyed_among (y ∷ ys) x m = ⊎_elim (λ e. inl (ap (λ (x : X). (key x, x)) e)) (λ a. inr (keyed_among ys x a)) m

  among_keyed : (xs : List X) (k : K) (x : X) → Among {A = K × X} (k, x) (map (λ (x : X). (key x, x)) xs) → Among x xs × (key x ≡ k)
  among_keyed [] k x m = absurd m
  among_keyed (y ∷ ys) k x m = ⊎_elim
      (λ (e : ◌≡◌ {A = K × X} (key y, y) (k, x)).
      let f : y ≡ x = ap (λ (p : K × X). p.1) e in
      let g : key y ≡ k = ap (λ (p : K × X). p.0) e in
      (inl f, ap key (sym f) ∙ g))
      (λ a. let h = among_keyed ys k x a in (inr h.0, h.1)) m

  module _ (xs : List X) where
    abbrev by_key : FinMap R X
    by_key = from_entries (map (λ (x : X). (key x, x)) xs)

    -- an entry is one of the values, under its key
    filed : (k : K) (x : X) → Among (k, x) (entries by_key) → Among x xs × (key x ≡ k)
    filed k x m =
        among_keyed xs k x (found o exact k x (map (λ (x : X). (key x, x)) xs)
        (sym (get-from_entries o (map (λ (x : X). (key x, x)) xs) k) ∙ get_entry o exact by_key k x m))

    pub ordered_member : (x : X) → Among x (values by_key) → Among x xs
    ordered_member x m = let v = valued (entries by_key) x m in (filed v.0 x v.1).0

    pub member_ordered : (x : X) → Among x xs → ((y : X) → Among y xs → key y ≡ key x → y ≡ x) → Among x (values by_key)
    member_ordered x m only =
        value_among (entries by_key) (key x) x (got o exact by_key (key x) x
        (get-from_entries o (map (λ (x : X). (key x, x)) xs) (key x)
        ∙ found_only o exact (key x) x (map (λ (x : X). (key x, x)) xs) (keyed_among xs x m) (λ y n. let h = among_keyed xs (key x) y n in only y h.0 h.1)))

    pub ordered_by_key : IsStrictlySortedBy (λ x y. R (key x) (key y)) (values by_key)
    ordered_by_key = sorted_values R key (entries by_key) (entries_sorted by_key) (all_entries (λ (e : K × X). key e.1 ≡ e.0) (entries by_key) (λ e m. (filed e.0 e.1 m).1))
