-- What is left of pages of which the entries stay that pass a test.
use Rattle.std.proofs.Common.{◌≡◌, ℕ, zero, suc, ◌<◌, Bool, true, false, cond, not, List, [], ◌∷◌, ◌++◌, length, get_or, set, Option, Some, None, refl, sym, ap, subst, ◌∙◌, arith, nat_eq}
use Rattle.std.specs.declared.cmp.Ordering.{Ordering}
use Rattle.std.specs.declared.cmp.Ordering.TheVariants.{Less}
use Rattle.std.specs.Ordering.{is_eq}
use Rattle.std.specs.Cmp.{IsTotalOrder, Equal-is}
use Rattle.std.proofs.lemmas.Cmp.{tied_back}
use Rattle.std.proofs.lemmas.Map.{lookup-none}
use Rattle.std.proofs.lemmas.List.Elements.{filter-append}
use Rattle.std.specs.List.{AllByRecursion, filter}
use Rattle.std.specs.List.Sorted.{IsStrictlySortedBy}
use Rattle.std.specs.Map.{keys_of}
use Rattle.std.specs.BTreeMap.{is_at}
use Rattle.ordered_maps.specs.MapView.{get, AreOrdered, IsRetained, passing}
use Rattle.ordered_maps.specs.Pages.{entries_of, AreFilled}
use Rattle.ordered_maps.proofs.LookupLemmas.{none_above, keys_above}

module _ {E : Type 0} (p : E → Bool) where
  -- the pages once the first n were gone through
  abbrev pub retained : ℕ → List (List E) → List (List E)
  retained zero ps = ps
  retained (suc n) [] = []
  retained (suc n) (q ∷ qs) = filter p q ∷ retained n qs

  pub as_many : (n : ℕ) (ps : List (List E)) → length (retained n ps) ≡ length ps
  as_many zero ps = refl
  as_many (suc n) [] = refl
  as_many (suc n) (q ∷ qs) = ap suc (as_many n qs)

  -- the next page is gone through
  pub next_page : (n : ℕ) (ps : List (List E)) (page : List E) → n < length ps → page ≡ get_or (retained n ps) n page → set (retained n ps) n (filter p page) ≡ retained (suc n) ps
  next_page n [] page h e = absurd (omega arith)
  next_page zero (q ∷ qs) page h e = ap (λ x. filter p x ∷ qs) e
  next_page (suc n) (q ∷ qs) page h e = ap (λ xs. filter p q ∷ xs) (next_page n qs page (omega arith) e)

module _ {K X : Type 0} (p : K × X → Bool) where
  pub all_retained : (ps : List (List (K × X))) (n : ℕ) → n ≡ length ps → entries_of (retained p n ps) ≡ filter p (entries_of ps)
  all_retained [] zero e = refl
  all_retained [] (suc n) e = absurd (omega arith)
  all_retained (q ∷ qs) zero e = absurd (omega arith)
  all_retained (q ∷ qs) (suc n) e = ap (λ es. filter p q ++ es) (all_retained qs n (omega arith)) ∙ sym (filter-append p q (entries_of qs))

module _ {K X : Type 0} where
  abbrev pub has_entries : List (K × X) → Bool
  has_entries page = not (nat_eq (length page) 0)

  some_entries : (e : K × X) (es : List (K × X)) → has_entries (e ∷ es) ≡ true
  some_entries e es = grind arith

  -- pages that are empty take no entries along
  pub without_empty : (ps : List (List (K × X))) → entries_of (filter has_entries ps) ≡ entries_of ps
  without_empty [] = refl
  without_empty ([] ∷ qs) = without_empty qs
  without_empty ((e ∷ es) ∷ qs) =
      ap (λ b. entries_of (cond b ((e ∷ es) ∷ filter has_entries qs) (filter has_entries qs))) (some_entries e es)
      ∙ ap (λ rest. (e ∷ es) ++ rest) (without_empty qs)

  pub others_filled : (ps : List (List (K × X))) → AreFilled (filter has_entries ps)
  others_filled [] = tt
  others_filled ([] ∷ qs) = others_filled qs
  others_filled ((e ∷ es) ∷ qs) =
      subst (λ b. AreFilled (cond b ((e ∷ es) ∷ filter has_entries qs) (filter has_entries qs))) (sym (some_entries e es)) (λ is. cc is, others_filled qs)

-- ---- what a key finds among them

module _ {K X : Type 0} {R : K → K → Ordering} (o : IsTotalOrder R) (keeps : X → Bool) where
  abbrev stays : K × X → Bool
  stays e = keeps e.1

  later : (k : K) (es : List (K × X)) → AllByRecursion (λ y. R k y ≡ Less) (keys_of es) → AllByRecursion (λ y. R k y ≡ Less) (keys_of (filter stays es))
  later k [] a = tt
  later k (e ∷ es) a =
      elim (keeps e.1) as (λ b. AllByRecursion (λ y. R k y ≡ Less) (keys_of (cond b (e ∷ filter stays es) (filter stays es)))) [
        | true ↦ (a.0, later k es a.1)
        | false ↦ later k es a.1
      ]

  pub ordered_retained : (es : List (K × X)) → AreOrdered R es → AreOrdered R (filter stays es)
  unfolding IsStrictlySortedBy
  ordered_retained [] s = tt
  ordered_retained (e ∷ es) s =
      elim (keeps e.1) as (λ b. IsStrictlySortedBy R (keys_of (cond b (e ∷ filter stays es) (filter stays es)))) [
        | true ↦ (later e.0 es s.0, ordered_retained es s.1)
        | false ↦ ordered_retained es s.1
      ]

  none_later : (e : K × X) (es : List (K × X)) (q : K) → AllByRecursion (λ y. R e.0 y ≡ Less) (keys_of es) → is_eq (R q e.0) ≡ true → get R es q ≡ None
  none_later e es q a h = lookup-none (is_at (R q)) es (none_above o es e.0 q (tied_back o q e.0 ((Equal-is (R q e.0)).0 h)) (keys_above o e.0 es a))

  at_key : (x : X) (b c : Bool) (rest found : Option X) → keeps x ≡ b → rest ≡ passing keeps found → (c ≡ true → found ≡ None) → cond b (cond c (Some x) rest) rest ≡ passing keeps (cond c (Some x) found)
  at_key x true true rest found e h n = ap (λ b. cond b (Some x) None) (sym e)
  at_key x true false rest found e h n = h
  at_key x false true rest found e h n = h ∙ ap (passing keeps) (n refl) ∙ ap (λ b. cond b (Some x) None) (sym e)
  at_key x false false rest found e h n = h

  found_retained : (es : List (K × X)) → AreOrdered R es → (q : K) → get R (filter stays es) q ≡ passing keeps (get R es q)
  unfolding IsStrictlySortedBy
  found_retained [] s q = refl
  found_retained (e ∷ es) s q =
      elim (keeps e.1) as (λ b. keeps e.1 ≡ b → get R (cond b (e ∷ filter stays es) (filter stays es)) q ≡ cond b (cond (is_eq (R q e.0)) (Some e.1) (get R (filter stays es) q)) (get R (filter stays es) q)) [ true ↦ λ _. refl | false ↦ λ _. refl ] refl
      ∙ at_key e.1 (keeps e.1) (is_eq (R q e.0)) (get R (filter stays es) q) (get R es q) refl (found_retained es s.1 q) (none_later e es q s.0)

  pub is_retained : (es fs : List (K × X)) → AreOrdered R es → fs ≡ filter stays es → IsRetained R keeps es fs
  is_retained es fs s is q = ap (λ xs. get R xs q) is ∙ found_retained es s q
