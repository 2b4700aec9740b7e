-- A page that is split: the entries, and those around a place, stay.
use Rattle.std.proofs.Common.{◌≡◌, ◌≢◌, ℕ, zero, suc, ◌+◌, ◌-◌, ◌/◌, ◌<◌, ◌≤◌, Bool, true, false, true≢false, Result, Ok, Err, is_err, OnOk, List, [], ◌∷◌, ◌++◌, length, take, drop, sym, ap, subst, ◌∙◌, append_assoc, append-nil, arith, take-append-drop, length-append, length-drop, length-take-le, take-take, drop-drop, take_at, set, insert, get_or}
use Rattle.std.proofs.Math.Seq.{take-add, get_or-append_seam, drop-append-add}
use Rattle.std.proofs.lemmas.List.{drop-append-le}
use Rattle.std.proofs.lemmas.List.Concat.{flat_map-append}
use Rattle.ordered_maps.specs.declared.packed_map.search.Place.{Place}
use Rattle.ordered_maps.specs.Pages.{entries_of, page_at, AreFilled}
use Rattle.ordered_maps.specs.Places.{before, after, IsPlace, entered, split_at}
use Rattle.ordered_maps.proofs.ElementLemmas.{all_append, all_take, all_drop}
use Rattle.ordered_maps.proofs.PageLemmas.{filled_from_length, page_read, whole}

-- a full page, of so many entries, has two halves
pub halves : {K X : Type 0} (pages : List (List (K × X))) (n many : ℕ) (page : List (K × X)) → n < length pages → page ≡ get_or pages n page → many ≡ length page → 64 ≤ length (page_at pages n) → (0 < many / 2) × (many / 2 < length (page_at pages n))
halves pages n many page within read is full =
    let at = ap length (page_read pages n page within read) in
    (omega (arith, is, at), omega (arith, is, at))

-- a fact of a success, where there was no error
pub ok_from : {T E P : Type 0} (r : Result T E) → is_err r ≡ false → OnOk r P → P
ok_from (Ok x) e h = h
ok_from (Err x) e h = absurd (true≢false e)

module _ {K X : Type 0} where
  -- the end of a page was put behind it, as a page of its own
  pub inserted_behind : (pages : List (List (K × X))) (n i : ℕ) (page : List (K × X)) → n < length pages → page ≡ page_at pages n → insert (set pages n (take i page)) (suc n) (drop i page) ≡ split_at pages n i
  inserted_behind [] n i page h e = absurd (omega arith)
  inserted_behind (p ∷ ps) zero i page h e = ap (λ (q : List (K × X)). take i q ∷ drop i q ∷ ps) e
  inserted_behind (p ∷ ps) (suc n) i page h e = ap (λ qs. p ∷ qs) (inserted_behind ps n i page (omega arith) e)

  -- pages with one in the middle
  module _ (front : List (List (K × X))) (page : List (K × X)) (rest : List (List (K × X))) (n : ℕ) (long : length front ≡ n) where
    pub middle : page_at (front ++ page ∷ rest) n ≡ page
    middle = subst (λ m. page_at (front ++ page ∷ rest) m ≡ page) long (get_or-append_seam front page rest [])

    past_middle : drop (suc n) (front ++ page ∷ rest) ≡ rest
    past_middle = let at : length front + 1 ≡ suc n = omega arith in subst (λ m. drop m (front ++ page ∷ rest) ≡ rest) at (drop-append-add front (page ∷ rest) 1)

    pub before_middle : (i : ℕ) → before (front ++ page ∷ rest) (record { page = n; index = i }) ≡ entries_of front ++ take i page
    before_middle i =
        ap (λ ps. entries_of ps ++ take i (page_at (front ++ page ∷ rest) n)) (take_at front (page ∷ rest) n long)
        ∙ ap (λ p. entries_of front ++ take i p) middle

    pub after_middle : (i : ℕ) → after (front ++ page ∷ rest) (record { page = n; index = i }) ≡ drop i page ++ entries_of rest
    after_middle i =
        ap (λ p. drop i p ++ entries_of (drop (suc n) (front ++ page ∷ rest))) middle
        ∙ ap (λ ps. drop i page ++ entries_of ps) past_middle

  -- places in two lists of pages with the same entries before them, and the same after them
  pub record SamePlace (pages : List (List (K × X))) (place : Place) (others : List (List (K × X))) (other : Place) : Type 0 where
    pub before : before others other ≡ before pages place
    pub after : after others other ≡ after pages place

  pub entered_alike : (pages : List (List (K × X))) (place : Place) (others : List (List (K × X))) (other : Place) (e : K × X) (r : Bool) → SamePlace pages place others other → entered others other e r ≡ entered pages place e r
  entered_alike pages place others other e true s = ap (λ es. es ++ e ∷ after others other) s.before ∙ ap (λ es. before pages place ++ e ∷ es) s.after
  entered_alike pages place others other e false s =
      whole others other
      ∙ ap (λ es. es ++ after others other) s.before
      ∙ ap (λ es. before pages place ++ es) s.after
      ∙ sym (whole pages place)

  -- the page of a place is split at i
  module _ (pages : List (List (K × X))) (place : Place) (i : ℕ) (within : place.page < length pages) (fits : i ≤ length (page_at pages place.page)) where
    pub filled_split : AreFilled pages → 0 < i → i < length (page_at pages place.page) → AreFilled (split_at pages place.page i)
    filled_split f low high =
        let page = page_at pages place.page in
        let first : take i page ≢ [] = filled_from_length (take i page) (let l = length-take-le i page fits in omega arith) in
        let second : drop i page ≢ [] = filled_from_length (drop i page) (let l = length-drop i page in omega arith) in
        all_append (λ p. p ≢ []) (take place.page pages) (take i page ∷ drop i page ∷ drop (suc place.page) pages)
        (all_take (λ p. p ≢ []) place.page pages f)
        (first, (second, all_drop (λ p. p ≢ []) (suc place.page) pages f))

    long : length (take place.page pages) ≡ place.page
    long = length-take-le place.page pages (omega arith)

    more : suc place.page ≤ length (split_at pages place.page i)
    more =
        let page = page_at pages place.page in
        let l = length-append (take place.page pages) (take i page ∷ drop i page ∷ drop (suc place.page) pages) in
        let m = long in
        omega arith

    -- a place in the first half
    pub place_low : place.index ≤ i → IsPlace (split_at pages place.page i) place
    place_low h =
        let page = page_at pages place.page in
        let half = ap length (middle (take place.page pages) (take i page) (drop i page ∷ drop (suc place.page) pages) place.page long) in
        let l = length-take-le i page fits in
        let m = more in
        record { page = omega arith; index = omega arith }

    pub same_low : place.index ≤ i → SamePlace pages place (split_at pages place.page i) place
    same_low h =
        let page = page_at pages place.page in
        let front = take place.page pages in
        let rest = drop (suc place.page) pages in
        let l = length-take-le i page fits in
        record {
          before =
              before_middle front (take i page) (drop i page ∷ rest) place.page long place.index
              ∙ ap (λ es. entries_of front ++ es) (take-take place.index i page h);
          after =
              after_middle front (take i page) (drop i page ∷ rest) place.page long place.index
              ∙ sym (append_assoc (drop place.index (take i page)) (drop i page) (entries_of rest))
              ∙ ap (λ es. es ++ entries_of rest) (sym (drop-append-le place.index (take i page) (drop i page) (omega arith)) ∙ ap (drop place.index) (take-append-drop i page));
        }

    -- the same pages, seen from the second half
    seen : split_at pages place.page i ≡ (take place.page pages ++ take i (page_at pages place.page) ∷ []) ++ drop i (page_at pages place.page) ∷ drop (suc place.page) pages
    seen = let page = page_at pages place.page in sym (append_assoc (take place.page pages) (take i page ∷ []) (drop i page ∷ drop (suc place.page) pages))

    long_half : length (take place.page pages ++ take i (page_at pages place.page) ∷ []) ≡ place.page + 1
    long_half = let l = length-append (take place.page pages) (take i (page_at pages place.page) ∷ []) in let m = long in omega arith

    -- a place in the second half
    pub place_high : i ≤ place.index → place.index ≤ length (page_at pages place.page) → IsPlace (split_at pages place.page i) (record { page = place.page + 1; index = place.index - i })
    place_high h k =
        let page = page_at pages place.page in
        let front = take place.page pages ++ take i page ∷ [] in
        let half = ap length (ap (λ ps. page_at ps (place.page + 1)) seen ∙ middle front (drop i page) (drop (suc place.page) pages) (place.page + 1) long_half) in
        let l = length-drop i page in
        let m = more in
        record { page = omega arith; index = omega arith }

    pub same_high : i ≤ place.index → SamePlace pages place (split_at pages place.page i) (record { page = place.page + 1; index = place.index - i })
    same_high h =
        let page = page_at pages place.page in
        let front = take place.page pages in
        let half = front ++ take i page ∷ [] in
        let rest = drop (suc place.page) pages in
        let over = place.index - i in
        let at : i + over ≡ place.index = omega arith in
        record {
          before =
              ap (λ ps. before ps (record { page = place.page + 1; index = over })) seen
              ∙ before_middle half (drop i page) rest (place.page + 1) long_half over
              ∙ ap (λ es. es ++ take over (drop i page)) (flat_map-append (λ p. p) front (take i page ∷ []) ∙ ap (λ es. entries_of front ++ es) (append-nil (take i page)))
              ∙ append_assoc (entries_of front) (take i page) (take over (drop i page))
              ∙ ap (λ es. entries_of front ++ es) (sym (take-add i over page) ∙ ap (λ m. take m page) at);
          after =
              ap (λ ps. after ps (record { page = place.page + 1; index = over })) seen
              ∙ after_middle half (drop i page) rest (place.page + 1) long_half over
              ∙ ap (λ es. es ++ entries_of rest) (drop-drop over i page ∙ ap (λ m. drop m page) at);
        }
