-- Buffers in the order of their latest moments.
use Rattle.std.proofs.Common.{◌≡◌, ℕ, Bool, true, false, cond, Some, List, [], ◌∷◌, filter, map, refl, sym, ◌∙◌, ap, ⊎_elim, inl, inr}
use Rattle.std.specs.Prelude.{◌&&◌, ◌||◌, ◌↔◌, is_some, T}
use Rattle.std.proofs.lemmas.Bool.{false≢true, or_left, or_right}
use Rattle.std.specs.declared.cmp.Ordering.{Ordering}
use Rattle.std.specs.declared.cmp.Ordering.TheVariants.{Less, Equal, Greater}
use Rattle.std.specs.Ordering.{is_lt, is_eq, eq_by_cmp, nat_cmp, ordering_then}
use Rattle.std.specs.List.{AllByRecursion, list_any}
use Rattle.std.specs.List.Sorted.{IsStrictlySortedBy}
use Rattle.std.specs.BTreeSet as tree
use Rattle.std.specs.BTreeSet.{BTreeSet}
use Rattle.std.specs.FinMap.{FinMap, from_entries, keys, entries, entries_sorted, is_sorted, find, get-from_entries, contains_key-keys, nat_cmp-IsAntisymmetric, slice_cmp-IsAntisymmetric}
use Rattle.std.specs.FinMap.Entries.{below_all}
use Rattle.std.proofs.lemmas.Cmp.{tied_itself}
use Rattle.std.proofs.lemmas.List.Kept.{IsStrictlySortedBy-filter}
use Rattle.std.proofs.lemmas.Map.Lookups.{btree_set_from_contains}
use Rattle.byte_text.specs.Order.{text_cmp}
use Rattle.chat_history.specs.Choice.{Among}
use Rattle.chat_history.specs.Visible.{spot_cmp}
use Rattle.chat_history.proofs.CallerLemmas.{spot_total}

abbrev pub Listed : Type 0
Listed = ℕ × List ℕ

-- ---- only equal pairs tie

then_equal : (a b : Ordering) → ordering_then a b ≡ Equal → (a ≡ Equal) × (b ≡ Equal)
then_equal Less b e = cc
then_equal Equal b e = (refl, e)
then_equal Greater b e = cc

pub spot_exact : (x y : Listed) → spot_cmp x y ≡ Equal → x ≡ y
spot_exact x y e =
    let both = then_equal (nat_cmp x.0 y.0) (text_cmp x.1 y.1) e in
    let moments = nat_cmp-IsAntisymmetric x.0 y.0 both.0 in
    let texts = slice_cmp-IsAntisymmetric nat_cmp-IsAntisymmetric x.1 y.1 both.1 in
    λ i. (moments i, texts i)

-- ---- the keys of a map, in order

first : (a b : Bool) → T (a && b) → T a
first true b h = tt
first false b h = h

second : (a b : Bool) → T (a && b) → T b
second true b h = h
second false b h = absurd h

less : (o : Ordering) → T (is_lt o) → o ≡ Less
less Less h = refl
less Equal h = absurd h
less Greater h = absurd h

module _ (R : Listed → Listed → Ordering) where
  all_below : (x : Listed) (es : List (Listed × Listed)) → T (below_all R x es) → AllByRecursion (λ y. R x y ≡ Less) (map (λ e. e.0) es)
  all_below x [] h = tt
  all_below x (e ∷ es) h = (less (R x e.0) (first _ _ h), all_below x es (second _ _ h))

  keys_sorted : (es : List (Listed × Listed)) → T (is_sorted R es) → IsStrictlySortedBy R (map (λ e. e.0) es)
  unfolding IsStrictlySortedBy
  keys_sorted [] h = tt
  keys_sorted (e ∷ es) h = (all_below e.0 es (first _ _ h), keys_sorted es (second _ _ h))

-- ---- members

step : (e px pq rest all : Bool) → (e ≡ true → px ≡ pq) → rest ≡ (pq && all) → cond px (e || rest) rest ≡ (pq && (e || all))
step true true true rest all h g = refl
step true true false rest all h g = absurd (false≢true (sym (h refl)))
step true false true rest all h g = absurd (false≢true (h refl))
step true false false rest all h g = g
step false true pq rest all h g = g
step false false pq rest all h g = g

nothing : (b : Bool) → false ≡ (b && false)
nothing true = refl
nothing false = refl

tied : (o : Ordering) → is_eq o ≡ true → o ≡ Equal
tied Less e = absurd (false≢true e)
tied Equal e = refl
tied Greater e = absurd (false≢true e)

moved : (px : Bool) (q x : Listed) (xs : List Listed) → list_any (eq_by_cmp spot_cmp q) (cond px (x ∷ xs) xs) ≡ cond px (eq_by_cmp spot_cmp q x || list_any (eq_by_cmp spot_cmp q) xs) (list_any (eq_by_cmp spot_cmp q) xs)
moved true q x xs = refl
moved false q x xs = refl

any_filter : (p : Listed → Bool) (q : Listed) (xs : List Listed) → list_any (eq_by_cmp spot_cmp q) (filter p xs) ≡ (p q && list_any (eq_by_cmp spot_cmp q) xs)
any_filter p q [] = nothing (p q)
any_filter p q (x ∷ xs) =
    moved (p x) q x (filter p xs)
    ∙ step (eq_by_cmp spot_cmp q x) (p x) (p q) _ _ (λ t. ap p (sym (spot_exact q x (tied (spot_cmp q x) t)))) (any_filter p q xs)

found_twice : (q : Listed) (xs : List Listed) → is_some (find spot_cmp q (map (λ (e : Listed). (e, e)) xs)) ≡ list_any (eq_by_cmp spot_cmp q) xs
found_twice q [] = refl
found_twice q (x ∷ xs) =
    elim (eq_by_cmp spot_cmp q x) as (λ b. is_some (cond b (Some x) (find spot_cmp q (map (λ (e : Listed). (e, e)) xs))) ≡ (b || list_any (eq_by_cmp spot_cmp q) xs)) [
      | true ↦ refl
      | false ↦ found_twice q xs
    ]

module _ (p : Listed → Bool) (xs : List Listed) where
  abbrev all : FinMap spot_cmp Listed
  all = from_entries {R = spot_cmp} (map (λ (e : Listed). (e, e)) xs)

  member : (q : Listed) → list_any (eq_by_cmp spot_cmp q) (keys all) ≡ list_any (eq_by_cmp spot_cmp q) xs
  member q = sym (contains_key-keys all q) ∙ ap is_some (get-from_entries spot_total (map (λ (e : Listed). (e, e)) xs) q) ∙ found_twice q xs

  -- a set of those of a list that pass
  pub set_is : (s : BTreeSet Listed) → tree.IsFromIterResult spot_cmp (filter p xs) s → s.keys ≡ filter p (keys all)
  set_is s f =
      btree_set_from_contains spot_total s (record { keys = filter p (keys all) }) f.1 (IsStrictlySortedBy-filter spot_cmp p (keys all) (keys_sorted spot_cmp (entries all) (entries_sorted all)))
      (λ q. f.0 q ∙ any_filter p q xs ∙ ap (λ b. p q && b) (sym (member q)) ∙ sym (any_filter p q (keys all))) spot_exact

-- ---- the keys are the items of the list, in order

any_among : (q : Listed) (xs : List Listed) → list_any (eq_by_cmp spot_cmp q) xs ≡ true → Among q xs
any_among q [] e = absurd (false≢true e)
any_among q (x ∷ xs) e =
    elim (eq_by_cmp spot_cmp q x) as (λ b. eq_by_cmp spot_cmp q x ≡ b → (b || list_any (eq_by_cmp spot_cmp q) xs) ≡ true → Among q (x ∷ xs)) [
      | true ↦ λ t _. inl (sym (spot_exact q x (tied (spot_cmp q x) t)))
      | false ↦ λ _ r. inr (any_among q xs r)
    ] refl e

among_any : (q : Listed) (xs : List Listed) → Among q xs → list_any (eq_by_cmp spot_cmp q) xs ≡ true
among_any q [] m = absurd m
among_any q (x ∷ xs) m = ⊎_elim
    (λ (e : x ≡ q). or_left _ _ (ap is_eq (ap (spot_cmp q) e ∙ tied_itself spot_total q)))
    (λ a. or_right (eq_by_cmp spot_cmp q x) _ (among_any q xs a)) m

module _ (xs : List Listed) where
  pub keys_among : (q : Listed) → Among q (keys (from_entries {R = spot_cmp} (map (λ (e : Listed). (e, e)) xs))) ↔ Among q xs
  keys_among q =
      let same = member (λ _. true) xs q in
      let ks = keys (from_entries {R = spot_cmp} (map (λ (e : Listed). (e, e)) xs)) in
      (λ m. any_among q xs (sym same ∙ among_any q ks m), λ m. any_among q ks (same ∙ among_any q xs m))

  pub keys_rise : IsStrictlySortedBy spot_cmp (keys (from_entries {R = spot_cmp} (map (λ (e : Listed). (e, e)) xs)))
  keys_rise =
      let all = from_entries {R = spot_cmp} (map (λ (e : Listed). (e, e)) xs) in
      keys_sorted spot_cmp (entries all) (entries_sorted all)
