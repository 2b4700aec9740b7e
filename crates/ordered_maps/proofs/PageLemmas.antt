-- Pages, and the entries that stand in them, where one page changes.
use Rattle.std.proofs.Common.{◌≡◌, ◌≢◌, ℕ, zero, suc, ◌<◌, ◌≤◌, Bool, true, false, List, [], ◌∷◌, ◌++◌, length, take, drop, get_or, set, insert, remove, refl, sym, ap, subst, ◌∙◌, append_assoc, append-nil, arith, take-append-drop, length-append, take_all, drop-cons, drop-set-lt}
use Rattle.std.proofs.lemmas.List.{take-set, drop_all, get_or_default, get_or_past, set_split}
use Rattle.std.proofs.lemmas.List.Concat.{flat_map-append}
use Rattle.std.specs.List.{AllByRecursion}
use Rattle.ordered_maps.specs.declared.packed_map.search.Place.{Place}
use Rattle.ordered_maps.specs.Pages.{entries_of, page_at, AreFilled, WritesValue}
use Rattle.ordered_maps.proofs.ElementLemmas.{all_append, all_take, all_drop}
use Rattle.ordered_maps.specs.Places.{before, after, past, IsEntryPlace, AreFilledBut, ChangesEntry, entered}

-- ---- lists

pub filled_from_length : {X : Type 0} (xs : List X) → 0 < length xs → xs ≢ []
filled_from_length xs h e = let n = ap length e in omega arith

pub empty_from_length : {X : Type 0} (xs : List X) → length xs ≡ 0 → xs ≡ []
empty_from_length [] h = refl
empty_from_length (x ∷ xs) h = absurd (omega (arith, h))

module _ {K X : Type 0} where
  -- ---- the page at n, and those around it

  pub parted : (pages : List (List (K × X))) (n : ℕ) → entries_of pages ≡ entries_of (take n pages) ++ (page_at pages n ++ entries_of (drop (suc n) pages))
  parted [] zero = refl
  parted [] (suc n) = refl
  parted (p ∷ ps) zero = refl
  parted (p ∷ ps) (suc n) = ap (λ es. p ++ es) (parted ps n) ∙ sym (append_assoc p (entries_of (take n ps)) (page_at ps n ++ entries_of (drop (suc n) ps)))

  pub replaced : (pages : List (List (K × X))) (n : ℕ) (page : List (K × X)) → n < length pages → entries_of (set pages n page) ≡ entries_of (take n pages) ++ (page ++ entries_of (drop (suc n) pages))
  replaced [] n page h = absurd (omega arith)
  replaced (p ∷ ps) zero page h = refl
  replaced (p ∷ ps) (suc n) page h = ap (λ es. p ++ es) (replaced ps n page (omega arith)) ∙ sym (append_assoc p (entries_of (take n ps)) (page ++ entries_of (drop (suc n) ps)))

  -- the page that an index reads
  pub page_read : (pages : List (List (K × X))) (n : ℕ) (page : List (K × X)) → n < length pages → page ≡ get_or pages n page → page ≡ page_at pages n
  page_read pages n page h e = e ∙ get_or_default pages n page [] h

  -- a page that is empty takes no entry along
  pub taken_empty : (pages : List (List (K × X))) (n : ℕ) → page_at pages n ≡ [] → entries_of (remove pages n) ≡ entries_of pages
  taken_empty pages n e =
      flat_map-append (λ page. page) (take n pages) (drop (suc n) pages)
      ∙ ap (λ page. entries_of (take n pages) ++ (page ++ entries_of (drop (suc n) pages))) (sym e)
      ∙ sym (parted pages n)

  -- the last page gave up what stood at its end
  pub popped : (pages : List (List (K × X))) (n : ℕ) (old new more : List (K × X)) → suc n ≡ length pages → old ≡ page_at pages n → old ≡ new ++ more → entries_of pages ≡ entries_of (set pages n new) ++ more
  popped pages n old new more last read out =
      let front = entries_of (take n pages) in
      let none : entries_of (drop (suc n) pages) ≡ [] = ap entries_of (drop_all (suc n) pages (omega arith)) in
      parted pages n
      ∙ ap (λ es. front ++ (page_at pages n ++ es)) none
      ∙ ap (λ es. front ++ es) (append-nil (page_at pages n) ∙ sym read ∙ out)
      ∙ sym (append_assoc front new more)
      ∙ ap (λ es. es ++ more) (ap (λ es. front ++ es) (sym (append-nil new)) ∙ ap (λ es. front ++ (new ++ es)) (sym none) ∙ sym (replaced pages n new (omega arith)))

  -- ---- no page is empty

  pub all_filled_but : (pages : List (List (K × X))) (n : ℕ) → AreFilled pages → AreFilledBut pages n
  all_filled_but pages n f = record { below = all_take (λ page. page ≢ []) n pages f; above = all_drop (λ page. page ≢ []) (suc n) pages f }

  pub filled_but_set : (pages : List (List (K × X))) (n : ℕ) (page : List (K × X)) → AreFilled pages → AreFilledBut (set pages n page) n
  filled_but_set pages n page f = record {
    below = subst AreFilled (sym (take-set pages n page)) (all_take (λ page. page ≢ []) n pages f);
    above = subst AreFilled (sym (drop-set-lt (suc n) pages n page (omega arith))) (all_drop (λ page. page ≢ []) (suc n) pages f);
  }

  pub filled_set : (pages : List (List (K × X))) (n : ℕ) (page : List (K × X)) → AreFilled pages → page ≢ [] → AreFilled (set pages n page)
  filled_set [] n page f p = tt
  filled_set (q ∷ qs) zero page f p = (p, f.1)
  filled_set (q ∷ qs) (suc n) page f p = (f.0, filled_set qs n page f.1 p)

  pub filled_whole : (pages : List (List (K × X))) (n : ℕ) → AreFilledBut pages n → page_at pages n ≢ [] → AreFilled pages
  filled_whole [] n f p = tt
  filled_whole (q ∷ qs) zero f p = (p, f.above)
  filled_whole (q ∷ qs) (suc n) f p = (f.below.0, filled_whole qs n (record { below = f.below.1; above = f.above }) p)

  pub filled_removed : (pages : List (List (K × X))) (n : ℕ) → AreFilledBut pages n → AreFilled (remove pages n)
  filled_removed pages n f = all_append (λ page. page ≢ []) (take n pages) (drop (suc n) pages) f.below f.above

  -- ---- the entries around a place

  pub whole : (pages : List (List (K × X))) (place : Place) → entries_of pages ≡ before pages place ++ after pages place
  whole pages place =
      let front = entries_of (take place.page pages) in
      let page = page_at pages place.page in
      let rest = entries_of (drop (suc place.page) pages) in
      parted pages place.page
      ∙ ap (λ es. front ++ (es ++ rest)) (sym (take-append-drop place.index page))
      ∙ ap (λ es. front ++ es) (append_assoc (take place.index page) (drop place.index page) rest)
      ∙ sym (append_assoc front (take place.index page) (drop place.index page ++ rest))

  -- the page of a place has es from the place on
  pub edited : (pages : List (List (K × X))) (place : Place) (es : List (K × X)) → place.page < length pages → entries_of (set pages place.page (take place.index (page_at pages place.page) ++ es)) ≡ before pages place ++ (es ++ entries_of (drop (suc place.page) pages))
  edited pages place es h =
      let front = entries_of (take place.page pages) in
      let begun = take place.index (page_at pages place.page) in
      let rest = entries_of (drop (suc place.page) pages) in
      replaced pages place.page (begun ++ es) h
      ∙ ap (λ es. front ++ es) (append_assoc begun es rest)
      ∙ sym (append_assoc front begun (es ++ rest))

  -- the entry at a place, and those past it
  pub first_after : (pages : List (List (K × X))) (place : Place) (d : K × X) → place.index < length (page_at pages place.page) → after pages place ≡ get_or (page_at pages place.page) place.index d ∷ past pages place
  first_after pages place d h = ap (λ es. es ++ entries_of (drop (suc place.page) pages)) (drop-cons (page_at pages place.page) place.index d h)

  -- a value was written over the one at a place
  pub written : (pages : List (List (K × X))) (place : Place) (v r : X) (old new : List (K × X)) → IsEntryPlace pages place → old ≡ page_at pages place.page → WritesValue old place.index v r new → ChangesEntry pages place v r (set pages place.page new)
  written pages place v r old new at is w =
      let page = page_at pages place.page in
      let there : (d : K × X) → get_or page place.index d ≡ (w.key, r) = λ d. subst (λ es. get_or es place.index d ≡ (w.key, r)) is (w.there d) in
      record {
        key = w.key;
        there = there;
        old = whole pages place ∙ ap (λ es. before pages place ++ es) (first_after pages place (w.key, r) at.index ∙ ap (λ e. e ∷ past pages place) (there (w.key, r)));
        now =
            ap (λ es. entries_of (set pages place.page es)) (w.now ∙ ap (λ es. set es place.index (w.key, v)) is ∙ set_split page place.index (w.key, v) at.index)
            ∙ edited pages place ((w.key, v) ∷ drop (suc place.index) page) at.page;
      }

  -- ---- an entry is put at a place

  pub entered_cases : (pages new : List (List (K × X))) (place : Place) (e : K × X) (r : Bool) → (r ≡ true → entries_of new ≡ before pages place ++ e ∷ after pages place) → (r ≡ false → entries_of new ≡ entries_of pages) → entries_of new ≡ entered pages place e r
  entered_cases pages new place e true put not = put refl
  entered_cases pages new place e false put not = not refl

  -- in its page
  pub entered_in : (pages : List (List (K × X))) (place : Place) (e : K × X) (r : Bool) (old new : List (K × X)) → place.page < length pages → old ≡ page_at pages place.page → (r ≡ true → new ≡ insert old place.index e) → (r ≡ false → new ≡ old) → entries_of (set pages place.page new) ≡ entered pages place e r
  entered_in pages place e r old new h is put not =
      let page = page_at pages place.page in
      entered_cases pages (set pages place.page new) place e r
      (λ y.
      ap (λ es. entries_of (set pages place.page es)) (put y ∙ ap (λ es. insert es place.index e) is)
      ∙ edited pages place (e ∷ drop place.index page) h)
      (λ n.
      ap (λ es. entries_of (set pages place.page es)) (not n ∙ is)
      ∙ replaced pages place.page page h
      ∙ sym (parted pages place.page))

  pub filled_in : (pages : List (List (K × X))) (place : Place) (e : K × X) (r : Bool) (old new : List (K × X)) → AreFilled pages → old ≢ [] → (r ≡ true → new ≡ insert old place.index e) → (r ≡ false → new ≡ old) → AreFilled (set pages place.page new)
  filled_in pages place e true old new f o put not = filled_set pages place.page new f (λ n. let l = ap length (sym (put refl) ∙ n) in let m = length-append (take place.index old) (e ∷ drop place.index old) in omega arith)
  filled_in pages place e false old new f o put not = filled_set pages place.page new f (λ n. o (sym (not refl) ∙ n))

  pub all_at : (P : List (K × X) → Type 0) (pages : List (List (K × X))) (n : ℕ) (d : List (K × X)) → AllByRecursion P pages → n < length pages → P (get_or pages n d)
  all_at P [] n d a h = absurd (omega arith)
  all_at P (p ∷ ps) zero d a h = a.0
  all_at P (p ∷ ps) (suc n) d a h = all_at P ps n d a.1 (omega arith)

  -- in a page of its own behind the others
  pub entered_last : (pages new : List (List (K × X))) (place : Place) (e : K × X) (r : Bool) → after pages place ≡ [] → (r ≡ true → new ≡ insert pages (length pages) (e ∷ [])) → (r ≡ false → new ≡ pages) → entries_of new ≡ entered pages place e r
  entered_last pages new place e r end put not = entered_cases pages new place e r
      (λ y.
      ap entries_of (put y)
      ∙ flat_map-append (λ page. page) (take (length pages) pages) ((e ∷ []) ∷ drop (length pages) pages)
      ∙ ap (λ ps. entries_of ps ++ e ∷ entries_of (drop (length pages) pages)) (take_all (length pages) pages (omega arith))
      ∙ ap (λ ps. entries_of pages ++ e ∷ entries_of ps) (drop_all (length pages) pages (omega arith))
      ∙ ap (λ es. es ++ e ∷ []) (whole pages place ∙ ap (λ es. before pages place ++ es) end ∙ append-nil (before pages place))
      ∙ ap (λ es. before pages place ++ e ∷ es) (sym end))
      (λ n. ap entries_of (not n))

  pub nothing_after : (pages : List (List (K × X))) (place : Place) → length pages ≤ suc place.page → length (page_at pages place.page) ≤ place.index → after pages place ≡ []
  nothing_after pages place h i =
      ap (λ ps. drop place.index (page_at pages place.page) ++ entries_of ps) (drop_all (suc place.page) pages h)
      ∙ append-nil (drop place.index (page_at pages place.page))
      ∙ drop_all place.index (page_at pages place.page) i

  pub nothing_after_all : (pages : List (List (K × X))) (place : Place) → length pages ≤ place.page → after pages place ≡ []
  nothing_after_all pages place h = nothing_after pages place (omega arith) (let none = ap length (get_or_past pages place.page [] h) in omega arith)
