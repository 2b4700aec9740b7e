-- What stands before a bound, and what stands from it on, in a map's pages.
use Rattle.std.proofs.Common.{◌≡◌, ◌≢◌, ◌∷◌, ◌++◌, [], List, Bool, true, false, not, cond, refl, sym, ◌∙◌, ap, subst, ℕ, zero, suc, ◌<◌, ◌≤◌, ◌+◌, ◌-◌, ◌&&◌, length, get_or, take, drop, append_assoc, append-nil, length-drop, Some, arith}
use Rattle.std.specs.declared.cmp.Ordering.{Ordering}
use Rattle.std.specs.declared.cmp.Ordering.TheVariants.{Less, Equal, Greater}
use Rattle.std.specs.declared.ops.Bound.{Bound}
use Rattle.std.specs.declared.ops.Bound.TheVariants.{Included, Excluded, Unbounded}
use Rattle.std.specs.Ordering.{is_le, is_lt}
use Rattle.std.specs.Cmp.{IsTotalOrder}
use Rattle.std.specs.List.{AllByRecursion, AllWithin, filter, flat_map, slice_get, slice_range}
use Rattle.std.specs.List.Sorted.{IsPartitionedBy}
use Rattle.std.specs.Map.{keys_of}
use Rattle.std.specs.BTreeMap.Range.{is_from_start, range_contains, entries_between}
use Rattle.std.proofs.lemmas.Map.Keys.{sorted_head, sorted_tail}
use Rattle.std.proofs.lemmas.List.{take-append-drop, take_all}
use Rattle.std.proofs.lemmas.Grind.{flat_map-append}
use Rattle.std.proofs.lemmas.List.Elements.{filter-append}
use Rattle.ordered_maps.specs.MapView.{AreOrdered}
use Rattle.ordered_maps.specs.Pages.{entries_of}
use Rattle.ordered_maps.proofs.ElementLemmas.{all_append, all_left, all_right, all_first, all_rest, all_so, ordered_left, ordered_right}
use Rattle.ordered_maps.specs.Parts.{stands_before, last_passes, IsCutIn, IsCutBetween}

pub true_or_false : (x : Bool) {G : Type 0} → (x ≡ true → G) → (x ≡ false → G) → G
true_or_false true f g = f refl
true_or_false false f g = g refl

module _ {X : Type 0} (p : X → Bool) where
  pub filter_of_all : (xs : List X) → AllByRecursion (λ x. p x ≡ true) xs → filter p xs ≡ xs
  filter_of_all [] h = refl
  filter_of_all (x ∷ xs) h = ap (λ b. cond b (x ∷ filter p xs) (filter p xs)) h.0 ∙ ap (λ ys. x ∷ ys) (filter_of_all xs h.1)

  pub filter_of_none : (xs : List X) → AllByRecursion (λ x. p x ≡ false) xs → filter p xs ≡ []
  filter_of_none [] h = refl
  filter_of_none (x ∷ xs) h = ap (λ b. cond b (x ∷ filter p xs) (filter p xs)) h.0 ∙ filter_of_none xs h.1

module _ {K X : Type 0} (R : K → K → Ordering) where
  pub ordered_page : (pages : List (List (K × X))) (n : ℕ) (d : List (K × X)) → n < length pages → AreOrdered R (entries_of pages) → AreOrdered R (get_or pages n d)
  ordered_page [] n d lt h = absurd (omega (arith, lt))
  ordered_page (x ∷ xs) zero d lt h = ordered_left R x (entries_of xs) h
  ordered_page (x ∷ xs) (suc n) d lt h = ordered_page xs n d (omega arith) (ordered_right R x (entries_of xs) h)

not_is : (b : Bool) → not b ≡ false → b ≡ true
not_is true h = refl
not_is false h = absurd (cc)

module _ {K : Type 0} {R : K → K → Ordering} (o : IsTotalOrder R) where
  -- what comes after a key that a start bound lets in is let in too
  let_in : (start : Bound K) (x y : K) → R x y ≡ Less → is_from_start R start x ≡ true → is_from_start R start y ≡ true
  let_in (Included a) x y l h = elim (R a x) as (λ r. R a x ≡ r → is_le r ≡ true → is_le (R a y) ≡ true) [
    | Less ↦ λ e _. ap is_le (o.trans a x y e l)
    | Equal ↦ λ e _. ap is_le (o.congr a x y e ∙ l)
    | Greater ↦ λ _ t. absurd (cc)
  ] refl h
  let_in (Excluded a) x y l h = elim (R a x) as (λ r. R a x ≡ r → is_lt r ≡ true → is_lt (R a y) ≡ true) [
    | Less ↦ λ e _. ap is_lt (o.trans a x y e l)
    | Equal ↦ λ _ t. absurd (cc)
    | Greater ↦ λ _ t. absurd (cc)
  ] refl h
  let_in Unbounded x y l h = refl

module _ {K X : Type 0} {R : K → K → Ordering} (o : IsTotalOrder R) (start : Bound K) where
  later : (x y : K × X) → R x.0 y.0 ≡ Less → stands_before R start x ≡ false → stands_before R start y ≡ false
  later x y l h = ap not (let_in o start x.0 y.0 l (not_is (is_from_start R start x.0) h))

  earlier : (x y : K × X) → R x.0 y.0 ≡ Less → stands_before R start y ≡ true → stands_before R start x ≡ true
  earlier x y l h = true_or_false (stands_before R start x) (λ t. t) (λ f. absurd (let e = later x y l f in cc))

  all_later : (x : K × X) (es : List (K × X)) → AllByRecursion (λ y. R x.0 y ≡ Less) (keys_of es) → stands_before R start x ≡ false → AllByRecursion (λ e. stands_before R start e ≡ false) es
  all_later x [] l h = tt
  all_later x (e ∷ es) l h = (later x e l.0 h, all_later x es l.1 h)

  -- where a page's last entry stands before a bound, all of them do
  all_of_page : (page : List (K × X)) → AreOrdered R page → last_passes (stands_before R start) page ≡ true → AllByRecursion (λ e. stands_before R start e ≡ true) page
  all_of_page [] s h = tt
  all_of_page (x ∷ []) s h = (h, tt)
  all_of_page (x ∷ y ∷ page) s h =
      let rest : AllByRecursion (λ e. stands_before R start e ≡ true) (y ∷ page) = all_of_page (y ∷ page) (sorted_tail R x.0 (keys_of (y ∷ page)) s) h in
      (earlier x y (sorted_head R x.0 (keys_of (y ∷ page)) s).0 rest.0, rest)

  -- where it doesn't, nothing after the page does
  after_page : (page es : List (K × X)) → AreOrdered R (page ++ es) → last_passes (stands_before R start) page ≡ false → AllByRecursion (λ e. stands_before R start e ≡ false) es
  after_page [] es s h = absurd (cc)
  after_page (x ∷ []) es s h = all_later x es (sorted_head R x.0 (keys_of es) s) h
  after_page (x ∷ y ∷ page) es s h = after_page (y ∷ page) es (sorted_tail R x.0 (keys_of (y ∷ page ++ es)) s) h

  -- ---- what `partition_point` asks of the entries of a page, and of the pages
  all_at : (P : K → Type 0) (es : List (K × X)) (i : ℕ) (d : K × X) → AllByRecursion P (keys_of es) → i < length es → P (get_or es i d).0
  all_at P [] i d h lt = absurd (omega (arith, lt))
  all_at P (e ∷ es) zero d h lt = h.0
  all_at P (e ∷ es) (suc i) d h lt = all_at P es i d h.1 (omega arith)

  pub page_falls : (page : List (K × X)) → AreOrdered R page → IsPartitionedBy (stands_before R start) page
  page_falls [] s i j d le lt h = absurd (omega (arith, lt))
  page_falls (x ∷ page) s zero zero d le lt h = h
  page_falls (x ∷ page) s zero (suc j) d le lt h = earlier x (get_or page j d) (all_at (λ y. R x.0 y ≡ Less) page j d (sorted_head R x.0 (keys_of page) s) (omega arith)) h
  page_falls (x ∷ page) s (suc i) zero d le lt h = absurd (omega arith)
  page_falls (x ∷ page) s (suc i) (suc j) d le lt h = page_falls page (sorted_tail R x.0 (keys_of page) s) i j d (omega arith) (omega arith) h

  none_passes : (page : List (K × X)) → page ≢ [] → AllByRecursion (λ e. stands_before R start e ≡ false) page → last_passes (stands_before R start) page ≡ false
  none_passes [] n h = absurd (n refl)
  none_passes (x ∷ []) n h = h.0
  none_passes (x ∷ y ∷ page) n h = none_passes (y ∷ page) (λ e. cc) h.1

  none_at : (pages : List (List (K × X))) (i : ℕ) (d : List (K × X)) → AllByRecursion (λ page. page ≢ []) pages → AllByRecursion (λ e. stands_before R start e ≡ false) (entries_of pages) → i < length pages → last_passes (stands_before R start) (get_or pages i d) ≡ false
  none_at [] i d f h lt = absurd (omega (arith, lt))
  none_at (x ∷ pages) zero d f h lt = none_passes x f.0 (all_left (λ e. stands_before R start e ≡ false) x (entries_of pages) h)
  none_at (x ∷ pages) (suc i) d f h lt = none_at pages i d f.1 (all_right (λ e. stands_before R start e ≡ false) x (entries_of pages) h) (omega arith)

  pub pages_fall : (pages : List (List (K × X))) → AllByRecursion (λ page. page ≢ []) pages → AreOrdered R (entries_of pages) → IsPartitionedBy (last_passes (stands_before R start)) pages
  pages_fall [] f s i j d le lt h = absurd (omega (arith, lt))
  pages_fall (x ∷ pages) f s zero zero d le lt h = h
  pages_fall (x ∷ pages) f s zero (suc j) d le lt h = true_or_false (last_passes (stands_before R start) x) (λ t. t)
      (λ n. absurd (let e = none_at pages j d f.1 (after_page x (entries_of pages) s n) (omega arith) in cc))
  pages_fall (x ∷ pages) f s (suc i) zero d le lt h = absurd (omega arith)
  pages_fall (x ∷ pages) f s (suc i) (suc j) d le lt h = pages_fall pages f.1 (ordered_right R x (entries_of pages) s) i j d (omega arith) (omega arith) h

  -- where the first page's last entry doesn't stand before a bound, no page's does
  pub no_page : (pages : List (List (K × X))) (front : List (K × X)) → AllByRecursion (λ page. page ≢ []) pages → AreOrdered R (entries_of pages) → front ≡ get_or pages 0 front → last_passes (stands_before R start) front ≡ false → AllWithin (λ page. last_passes (stands_before R start) page ≡ false) pages 0 (length pages)
  no_page [] front f s is h k d low high = absurd (omega (arith, high))
  no_page (x ∷ pages) front f s is h k d low high = true_or_false (last_passes (stands_before R start) (get_or (x ∷ pages) k d))
      (λ t. absurd (let e : last_passes (stands_before R start) x ≡ true = pages_fall (x ∷ pages) f s 0 k d low high t in let n : last_passes (stands_before R start) x ≡ false = sym (ap (λ page. last_passes (stands_before R start) page) is) ∙ h in cc))
      (λ n. n)

  -- ---- what stands on either side of a bound
  all_before : (pages : List (List (K × X))) (n : ℕ) → AreOrdered R (entries_of pages) → n ≤ length pages → AllWithin (λ page. last_passes (stands_before R start) page ≡ true) pages 0 n → AllByRecursion (λ e. stands_before R start e ≡ true) (entries_of (take n pages))
  all_before pages zero s le h = tt
  all_before [] (suc n) s le h = absurd (omega (arith, le))
  all_before (x ∷ pages) (suc n) s le h = all_append (λ e. stands_before R start e ≡ true) x (entries_of (take n pages))
      (all_of_page x (ordered_left R x (entries_of pages) s) (h 0 x (omega arith) (omega arith)))
      (all_before pages n (ordered_right R x (entries_of pages) s) (omega arith) (λ k d low high. h (suc k) d (omega arith) (omega arith)))

  none_after : (pages : List (List (K × X))) (n : ℕ) → AreOrdered R (entries_of pages) → n < length pages → AllWithin (λ page. last_passes (stands_before R start) page ≡ false) pages n (length pages) → AllByRecursion (λ e. stands_before R start e ≡ false) (entries_of (drop (suc n) pages))
  none_after [] n s lt h = absurd (omega (arith, lt))
  none_after (x ∷ pages) zero s lt h = after_page x (entries_of pages) s (h 0 x (omega arith) (omega arith))
  none_after (x ∷ pages) (suc n) s lt h = none_after pages n (ordered_right R x (entries_of pages) s) (omega arith) (λ k d low high. h (suc k) d (omega arith) (omega arith))

pub last_passes_at : {X : Type 0} (test : X → Bool) (page : List X) (i : ℕ) (d : X) → i + 1 ≡ length page → last_passes test page ≡ test (get_or page i d)
last_passes_at test [] i d is = absurd (omega (arith, is))
last_passes_at test (x ∷ []) zero d is = refl
last_passes_at test (x ∷ []) (suc i) d is = absurd (omega (arith, is))
last_passes_at test (x ∷ y ∷ page) zero d is = absurd (omega (arith, is))
last_passes_at test (x ∷ y ∷ page) (suc i) d is = last_passes_at test (y ∷ page) i d (omega (arith, is))

entries_at : {X : Type 0} (pages : List (List X)) (n : ℕ) (d : List X) → n < length pages → flat_map (λ page. page) pages ≡ flat_map (λ page. page) (take n pages) ++ (get_or pages n d ++ flat_map (λ page. page) (drop (suc n) pages))
entries_at [] n d lt = absurd (omega (arith, lt))
entries_at (x ∷ pages) zero d lt = refl
entries_at (x ∷ pages) (suc n) d lt = ap (λ es. x ++ es) (entries_at pages n d (omega arith)) ∙ sym (append_assoc x (flat_map (λ page. page) (take n pages)) (get_or pages n d ++ flat_map (λ page. page) (drop (suc n) pages)))

with_last : {X : Type 0} (xs : List X) (n : ℕ) (x : X) → n + 1 ≡ length xs → x ≡ get_or xs n x → xs ≡ take n xs ++ x ∷ []
with_last [] n x ln is = absurd (omega (arith, ln))
with_last (y ∷ []) zero x ln is = ap (λ z. z ∷ []) (sym is)
with_last (y ∷ []) (suc n) x ln is = absurd (omega (arith, ln))
with_last (y ∷ z ∷ xs) zero x ln is = absurd (omega (arith, ln))
with_last (y ∷ z ∷ xs) (suc n) x ln is = ap (λ zs. y ∷ zs) (with_last (z ∷ xs) n x (omega (arith, ln)) is)

-- the last entry of the last page
pub flat_map_end : {X : Type 0} (pages : List (List X)) (page : List X) (x : X) (m n : ℕ) → m + 1 ≡ length pages → page ≡ get_or pages m page → n + 1 ≡ length page → x ≡ get_or page n x → flat_map (λ page. page) pages ≡ (flat_map (λ page. page) (take m pages) ++ take n page) ++ x ∷ []
flat_map_end pages page x m n lm pm ln xn =
    let front = flat_map (λ page. page) (take m pages) in
    ap (flat_map (λ page. page)) (with_last pages m page lm pm)
    ∙ flat_map-append (λ page. page) (take m pages) (page ∷ [])
    ∙ ap (λ xs. front ++ xs) (append-nil page ∙ with_last page n x ln xn)
    ∙ sym (append_assoc front (take n page) (x ∷ []))

module _ {K X : Type 0} (R : K → K → Ordering) (start : Bound K) where
  -- what stands before a bound, and what stands from it on, in entries that it cuts
  kept_before : (xs ys : List (K × X)) → AllByRecursion (λ e. stands_before R start e ≡ true) xs → AllByRecursion (λ e. stands_before R start e ≡ false) ys → filter (stands_before R start) (xs ++ ys) ≡ xs
  kept_before xs ys b a = filter-append (stands_before R start) xs ys ∙ ap (λ zs. zs ++ filter (stands_before R start) ys) (filter_of_all (stands_before R start) xs b) ∙ ap (λ zs. xs ++ zs) (filter_of_none (stands_before R start) ys a) ∙ append-nil xs

  is_let_in : (e : K × X) → stands_before R start e ≡ false → range_contains R start Unbounded e.0 ≡ true
  is_let_in e h = ap (λ b. b && true) (not_is (is_from_start R start e.0) h)

  is_kept_out : (e : K × X) → stands_before R start e ≡ true → range_contains R start Unbounded e.0 ≡ false
  is_kept_out e = elim (is_from_start R start e.0) as (λ b. not b ≡ true → (b && true) ≡ false) [ true ↦ λ h. absurd (cc) | false ↦ λ h. refl ]

  kept_from : (xs ys : List (K × X)) → AllByRecursion (λ e. stands_before R start e ≡ true) xs → AllByRecursion (λ e. stands_before R start e ≡ false) ys → entries_between R start Unbounded (xs ++ ys) ≡ ys
  kept_from xs ys b a =
      let test = λ (e : K × X). range_contains R start Unbounded e.0 in
      filter-append test xs ys ∙ ap (λ zs. zs ++ filter test ys) (filter_of_none test xs (all_so is_kept_out xs b)) ∙ filter_of_all test ys (all_so is_let_in ys a)

-- ---- at a cut: so many pages before a bound, whole, and so many entries of the next
module _ {K X : Type 0} {R : K → K → Ordering} (o : IsTotalOrder R) (start : Bound K) (pages : List (List (K × X))) (n : ℕ) where
  cut_entries : (c : ℕ) (d : List (K × X)) → n < length pages → entries_of pages ≡ (entries_of (take n pages) ++ take c (get_or pages n d)) ++ (drop c (get_or pages n d) ++ entries_of (drop (suc n) pages))
  cut_entries c d lt =
      let page = get_or pages n d in let front = entries_of (take n pages) in let back = entries_of (drop (suc n) pages) in
      entries_at pages n d lt
      ∙ ap (λ es. front ++ (es ++ back)) (sym (take-append-drop c page))
      ∙ ap (λ es. front ++ es) (append_assoc (take c page) (drop c page) back)
      ∙ sym (append_assoc front (take c page) (drop c page ++ back))

  module _ (s : AreOrdered R (entries_of pages)) (split : IsCutBetween R start pages n) where
    module _ (c : ℕ) (d : List (K × X)) (lt : n < length pages) (le : c ≤ length (get_or pages n d)) (cut : IsCutIn R start (get_or pages n d) c) where
      front_passes : AllByRecursion (λ e. stands_before R start e ≡ true) (entries_of (take n pages) ++ take c (get_or pages n d))
      front_passes = all_append (λ e. stands_before R start e ≡ true) (entries_of (take n pages)) (take c (get_or pages n d))
          (all_before o start pages n s (omega arith) split.0)
          (all_first (λ e. stands_before R start e ≡ true) (get_or pages n d) c cut.0)

      back_fails : AllByRecursion (λ e. stands_before R start e ≡ false) (drop c (get_or pages n d) ++ entries_of (drop (suc n) pages))
      back_fails = all_append (λ e. stands_before R start e ≡ false) (drop c (get_or pages n d)) (entries_of (drop (suc n) pages))
          (all_rest (λ e. stands_before R start e ≡ false) (get_or pages n d) c cut.1)
          (none_after o start pages n s lt split.1)

      before_cut : filter (stands_before R start) (entries_of pages) ≡ entries_of (take n pages) ++ take c (get_or pages n d)
      before_cut = ap (λ es. filter (stands_before R start) es) (cut_entries c d lt) ∙ kept_before R start (entries_of (take n pages) ++ take c (get_or pages n d)) (drop c (get_or pages n d) ++ entries_of (drop (suc n) pages)) front_passes back_fails

      from_cut : entries_between R start Unbounded (entries_of pages) ≡ drop c (get_or pages n d) ++ entries_of (drop (n + 1) pages)
      from_cut = ap (λ es. entries_between R start Unbounded es) (cut_entries c d lt) ∙ kept_from R start (entries_of (take n pages) ++ take c (get_or pages n d)) (drop c (get_or pages n d) ++ entries_of (drop (suc n) pages)) front_passes back_fails
          ∙ ap (λ k. drop c (get_or pages n d) ++ entries_of (drop k pages)) (let e : suc n ≡ n + 1 = omega arith in e)

    module _ (page : List (K × X)) (c : ℕ) (lt : n < length pages) (is : page ≡ get_or pages n page) (le : c ≤ length page) (cut : IsCutIn R start page c) where
      fits : c ≤ length (get_or pages n page)
      fits = subst (λ p. c ≤ length p) is le

      cuts : IsCutIn R start (get_or pages n page) c
      cuts = subst (λ p. IsCutIn R start p c) is cut

      pub before_at : filter (stands_before R start) (entries_of pages) ≡ entries_of (take n pages) ++ take c page
      before_at = before_cut c page lt fits cuts ∙ ap (λ p. entries_of (take n pages) ++ take c p) (sym is)

      pub from_at : entries_between R start Unbounded (entries_of pages) ≡ drop c page ++ entries_of (drop (n + 1) pages)
      from_at = from_cut c page lt fits cuts ∙ ap (λ p. drop c p ++ entries_of (drop (n + 1) pages)) (sym is)

    module _ (le : n ≤ length pages) (ge : length pages ≤ n) where
      whole : entries_of pages ≡ entries_of (take n pages) ++ []
      whole = ap (λ ps. entries_of ps) (sym (take_all n pages ge)) ∙ sym (append-nil (entries_of (take n pages)))

      pub before_end : filter (stands_before R start) (entries_of pages) ≡ entries_of (take n pages)
      before_end = ap (λ es. filter (stands_before R start) es) whole ∙ kept_before R start (entries_of (take n pages)) [] (all_before o start pages n s le split.0) tt

      pub from_end : entries_between R start Unbounded (entries_of pages) ≡ []
      from_end = ap (λ es. entries_between R start Unbounded es) whole ∙ kept_from R start (entries_of (take n pages)) [] (all_before o start pages n s le split.0) tt

pub kept_all : {K X : Type 0} (R : K → K → Ordering) (es : List (K × X)) → entries_between R Unbounded Unbounded es ≡ es
kept_all R [] = refl
kept_all R (e ∷ es) = ap (λ fs. e ∷ fs) (kept_all R es)

-- ---- the first entry, and parts of a list
pub first_entry : {X : Type 0} (pages : List (List X)) (page : List X) (x : X) → 0 < length pages → page ≡ get_or pages 0 page → 0 < length page → x ≡ get_or page 0 x → slice_get (flat_map (λ page. page) pages) 0 ≡ Some x
first_entry [] page x lp pi lx xi = absurd (omega (arith, lp))
first_entry ([] ∷ pages) page x lp pi lx xi = absurd (let e : length page ≡ 0 = ap length pi in omega (arith, e, lx))
first_entry ((y ∷ ys) ∷ pages) page x lp pi lx xi = ap (λ z. Some z) (sym (xi ∙ ap (λ p. get_or p 0 x) pi))

pub slice_front : {X : Type 0} (xs : List X) (n : ℕ) → slice_range xs 0 n ≡ take n xs
slice_front xs n = ap (λ k. take k xs) (let e : n - 0 ≡ n = omega arith in e)

pub slice_back : {X : Type 0} (xs : List X) (n m : ℕ) → m ≡ length xs → slice_range xs n m ≡ drop n xs
slice_back xs n m is = take_all (m - n) (drop n xs) (omega (arith, is, length-drop n xs))
