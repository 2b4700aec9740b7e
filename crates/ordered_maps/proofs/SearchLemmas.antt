-- The search for a key among pages.
use Rattle.std.proofs.Common.{◌≡◌, ◌≢◌, ℕ, suc, ◌+◌, ◌-◌, ◌<◌, ◌≤◌, Bool, true, false, true≢false, not, List, [], ◌∷◌, ◌++◌, length, take, drop, get_or, Option, Some, None, MatchOption, refl, sym, ap, subst, ◌∙◌, arith, drop-cons, is_gt, is_lt, take-append-drop, length-drop, get_or-drop, SomeIff, le_of_lt}
use Rattle.std.specs.declared.cmp.Ordering.{Ordering}
use Rattle.std.specs.declared.cmp.Ordering.TheVariants.{Less, Equal, Greater}
use Rattle.std.specs.Ordering.{ordering_index}
use Rattle.std.specs.Cmp.{IsTotalOrder}
use Rattle.std.specs.List.{AllWithin}
use Rattle.std.specs.List.Sorted.{IsNonDecreasingBy, IsPartitionedBy, IsPartitionPoint, IsStrictlySortedBy}
use Rattle.std.specs.Map.{keys_of}
use Rattle.std.proofs.lemmas.Map.Keys.{Less-from_sorted}
use Rattle.std.proofs.lemmas.Map.Entries.{length-keys_of}
use Rattle.std.proofs.lemmas.List.{get_or-map, get_or_default}
use Rattle.std.proofs.lemmas.List.Concat.{flat_map-append}
use Rattle.std.proofs.lemmas.List.Sorted.{searchable_from_sorted}
use Rattle.ordered_maps.specs.MapView.{AreOrdered}
use Rattle.ordered_maps.specs.Pages.{entries_of, page_at, starts_above, AreFilled, AreInPages}
use Rattle.ordered_maps.specs.Places.{AreBelow, AreAbove, IsPageOf, IsGap}
use Rattle.ordered_maps.proofs.ElementLemmas.{all_append, all_left, all_right, all_drop, all_first, all_rest, ordered_left, ordered_right}
use Rattle.ordered_maps.proofs.PageLemmas.{all_at, parted}
use Rattle.ordered_maps.proofs.LookupLemmas.{above_from_below, above_from, below_upto, ordered_below, ordered_above}

not_later : (b : Bool) → not b ≡ true → b ≡ false
not_later true h = absurd (true≢false (sym h))
not_later false h = refl

not_sooner : (b : Bool) → not b ≡ false → b ≡ true
not_sooner true h = refl
not_sooner false h = absurd (true≢false h)

-- no pages hold no entries
pub no_pages : {K X : Type 0} (R : K → K → Ordering) → AreInPages {X = X} R []
unfolding IsStrictlySortedBy
no_pages R = record { filled = tt; ordered = tt }

module _ {K X : Type 0} {R : K → K → Ordering} (o : IsTotalOrder R) (k : K) where
  -- ---- within a page

  -- what `binary_search_by` asks of a page
  rising : (page : List (K × X)) → AreOrdered R page → IsNonDecreasingBy (λ e. ordering_index (R e.0 k)) page
  rising page s = searchable_from_sorted o (λ e. e.0) page k (λ i d a b.
      let l = length-keys_of page in
      ap is_lt (above_from_below o (get_or page i d).0 (get_or page (i + 1) d).0
      (subst (λ x. R x (get_or page (i + 1) d).0 ≡ Less) (get_or-map (λ e. e.0) page i d d.0 (omega arith))
      (subst (λ y. R (get_or (keys_of page) i d.0) y ≡ Less) (get_or-map (λ e. e.0) page (i + 1) d d.0 (omega arith))
      (Less-from_sorted R (keys_of page) i (i + 1) d.0 s (omega arith) (omega arith))))))

  -- ---- the page

  -- whose first key is above k, so are the others, and those of what follows
  begins_above : (page es : List (K × X)) → AreOrdered R (page ++ es) → starts_above R k page ≡ true → AreAbove R k (page ++ es)
  begins_above [] es s h = absurd (true≢false (sym h))
  begins_above (e ∷ page) es s h =
      let g = is_greater (R e.0 k) h in
      (g, above_from o (page ++ es) e.0 k g (ordered_above o [] e (page ++ es) s))
    where
      is_greater : (r : Ordering) → is_gt r ≡ true → r ≡ Greater
      is_greater Less n = absurd (true≢false (sym n))
      is_greater Equal n = absurd (true≢false (sym n))
      is_greater Greater n = refl

  -- whose first key isn't above k, before it all are below
  ends_below : (es page more : List (K × X)) → AreOrdered R (es ++ (page ++ more)) → page ≢ [] → starts_above R k page ≡ false → AreBelow R k es
  ends_below es [] more s f h = absurd (f refl)
  ends_below es (e ∷ page) more s f h = below_upto o es e.0 k h (ordered_below o es e (page ++ more) s)

  ordered_from : (pages : List (List (K × X))) (n : ℕ) → AreOrdered R (entries_of pages) → AreOrdered R (entries_of (drop n pages))
  ordered_from pages n s = ordered_right R (entries_of (take n pages)) (entries_of (drop n pages)) (subst (AreOrdered R) (ap entries_of (sym (take-append-drop n pages)) ∙ flat_map-append (λ page. page) (take n pages) (drop n pages)) s)

  pub above_all : (pages : List (List (K × X))) (n : ℕ) → AreInPages R pages → n < length pages → starts_above R k (page_at pages n) ≡ true → AreAbove R k (entries_of (drop n pages))
  above_all pages n s h above =
      let cut = drop-cons pages n [] h in
      subst (λ ps. AreAbove R k (entries_of ps)) (sym cut)
      (begins_above (page_at pages n) (entries_of (drop (suc n) pages)) (subst (λ ps. AreOrdered R (entries_of ps)) cut (ordered_from pages n s.ordered)) above)

  below_all : (pages : List (List (K × X))) (n : ℕ) → AreInPages R pages → n < length pages → starts_above R k (page_at pages n) ≡ false → AreBelow R k (entries_of (take n pages))
  below_all pages n s h not_above =
      ends_below (entries_of (take n pages)) (page_at pages n) (entries_of (drop (suc n) pages))
      (subst (AreOrdered R) (parted pages n) s.ordered)
      (all_at (λ page. page ≢ []) pages n [] s.filled h)
      not_above

  -- ---- the search among the pages

  -- a page whose keys are above k
  starts_above_from : (page : List (K × X)) → page ≢ [] → AreAbove R k page → starts_above R k page ≡ true
  starts_above_from [] f a = absurd (f refl)
  starts_above_from (e ∷ page) f a = ap is_gt a.0

  page_above : (pages : List (List (K × X))) (n : ℕ) → AreFilled pages → n < length pages → AreAbove R k (entries_of pages) → starts_above R k (page_at pages n) ≡ true
  page_above pages n f h a =
      let page = page_at pages n in
      let more = entries_of (drop (suc n) pages) in
      let P = λ (e : K × X). R e.0 k ≡ Greater in
      starts_above_from page (all_at (λ p. p ≢ []) pages n [] f h)
      (all_left P page more (all_right P (entries_of (take n pages)) (page ++ more) (subst (AreAbove R k) (parted pages n) a)))

  -- what `partition_point` asks of the pages
  pub partitioned : (pages : List (List (K × X))) → AreInPages R pages → IsPartitionedBy (λ page. not (starts_above R k page)) pages
  partitioned pages s i j d le within h = by (starts_above R k (page_at pages i)) refl
    where
      by : (b : Bool) → starts_above R k (page_at pages i) ≡ b → not (starts_above R k (get_or pages i d)) ≡ true
      by false e = ap (λ page. not (starts_above R k page)) (get_or_default pages i d [] (omega arith)) ∙ ap not e
      by true e =
          let later = drop i pages in
          let l = length-drop i pages in
          let above : starts_above R k (page_at later (j - i)) ≡ true = page_above later (j - i) (all_drop (λ p. p ≢ []) i pages s.filled) (omega arith) (above_all pages i s (omega arith) e) in
          let at : i + (j - i) ≡ j = omega arith in
          let same : page_at later (j - i) ≡ get_or pages j d = get_or-drop i pages (j - i) [] ∙ ap (page_at pages) at ∙ get_or_default pages j [] d within in
          absurd (true≢false (sym (subst (λ page. starts_above R k page ≡ true) same above) ∙ not_later (starts_above R k (get_or pages j d)) h))

  -- the keys from n on
  rest_above : (pages : List (List (K × X))) (n : ℕ) → AreInPages R pages → AllWithin (λ page. not (starts_above R k page) ≡ false) pages n (length pages) → AreAbove R k (entries_of (drop n pages))
  rest_above pages n s all = by (drop n pages) refl
    where
      by : (ps : List (List (K × X))) → drop n pages ≡ ps → AreAbove R k (entries_of ps)
      by [] e = tt
      by (p ∷ ps) e =
          let l = ap length e in
          let m = length-drop n pages in
          let within : n < length pages = omega arith in
          subst (λ qs. AreAbove R k (entries_of qs)) e (above_all pages n s within (not_sooner (starts_above R k (page_at pages n)) (all n [] (omega arith) within)))

  pub found_page : (pages : List (List (K × X))) (n : ℕ) (r : Option ℕ) → AreInPages R pages → n ≤ length pages → IsPartitionPoint (λ page. not (starts_above R k page) ≡ true) (λ page. not (starts_above R k page) ≡ false) pages n → SomeIff r (1 ≤ n) (n - 1) → MatchOption r (AreAbove R k (entries_of pages)) (IsPageOf R k pages)
  found_page pages n None s h p is = let none : n ≡ 0 = omega (arith, is) in rest_above pages 0 s (subst (λ m. AllWithin (λ page. not (starts_above R k page) ≡ false) pages m (length pages)) none p.1)
  found_page pages n (Some m) s h p is =
      let at : n ≡ suc m = omega (arith, is) in
      let within : m < length pages = omega arith in
      record {
        within = within;
        below = below_all pages m s within (not_later (starts_above R k (page_at pages m)) (p.0 m [] (omega arith) (omega arith)));
        above = subst (λ j. AreAbove R k (entries_of (drop j pages))) at (rest_above pages n s p.1);
      }

  -- ---- the place in the page

  pub found_gap : (pages : List (List (K × X))) (n i : ℕ) → AreInPages R pages → IsPageOf R k pages n → i ≤ length (page_at pages n) → (IsNonDecreasingBy (λ e. ordering_index (R e.0 k)) (page_at pages n) → IsPartitionPoint (λ e. R e.0 k ≡ Less) (λ e. R e.0 k ≡ Greater) (page_at pages n) i) → IsGap R k pages (record { page = n; index = i })
  found_gap pages n i s f h search =
      let page = page_at pages n in
      let front = entries_of (take n pages) in
      let more = entries_of (drop (suc n) pages) in
      let point = search (rising page (ordered_left R page more (ordered_right R front (page ++ more) (subst (AreOrdered R) (parted pages n) s.ordered)))) in
      record {
        at = record { page = le_of_lt f.within; index = h };
        below = all_append (λ e. R e.0 k ≡ Less) front (take i page) f.below (all_first (λ e. R e.0 k ≡ Less) page i point.0);
        above = all_append (λ e. R e.0 k ≡ Greater) (drop i page) more (all_rest (λ e. R e.0 k ≡ Greater) page i point.1) f.above;
      }
