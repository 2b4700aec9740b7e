-- Pages that are read in turn give each record once, in order.
use Rattle.std.proofs.Common.{◌≡◌, ℕ, zero, suc, ◌-◌, ◌<◌, ◌≤◌, min, Option, None, Some, List, [], ◌∷◌, ◌++◌, length, take, drop, filter, reverse, refl, sym, ap, ◌∙◌, subst, arith, append_assoc, append-nil, take-append-drop, length-drop, inl, inr}
use Rattle.std.specs.Prelude.{◌⊎◌}
use Rattle.std.specs.Ordering.{on, is_lt}
use Rattle.std.specs.List.{flat_map}
use Rattle.std.specs.List.Sorted.{IsStrictlySortedBy}
use Rattle.std.specs.Option.{option_map, option_and_then}
use Rattle.std.proofs.lemmas.Cmp.{on_total}
use Rattle.std.proofs.lemmas.List.{reverse-append, length-take}
use Rattle.std.proofs.lemmas.List.Concat.{flat_map-append}
use Rattle.chat_change.specs.Record.{Record}
use Rattle.chat_change.specs.declared.change.Change.{Change}
use Rattle.chat_history.specs.History.{norm, message_moment}
use Rattle.chat_history.specs.Visible.{records_in, spot_cmp, spot_of}
use Rattle.chat_history.specs.Lookups.{position_in}
use Rattle.chat_history.specs.Choice.{Among}
use Rattle.chat_history.proofs.CallerLemmas.{norm_keyed}
use Rattle.chat_history.proofs.CallerLemmas.{spot_total, record_of, records_sorted}
use Rattle.chat_query.specs.Scope.{Scope}
use Rattle.chat_query.specs.declared.query.Selector.TheVariants.{Message}
use Rattle.chat_query.specs.declared.query.Query.TheVariants.{Latest, Before, After}
use Rattle.chat_query.specs.Page.{Page, of_records, page, page_in, buffer_of, last, is_after, is_before, Point, spot}
use Rattle.chat_query.specs.Walk.{FollowPages, PrecedePages, LatestPages}
use Rattle.chat_query.proofs.ItemLemmas.{after_it, before_it}

-- ---- lists

-- a list is empty or has an end
with_end : {A : Type 0} (xs : List A) → (xs ≡ []) ⊎ ((front : List A) × (end : A) × (xs ≡ front ++ end ∷ []))
with_end [] = inl refl
with_end (x ∷ xs) = inr (go x xs) where
  go : {A : Type 0} (x : A) (xs : List A) → (front : List A) × (end : A) × (x ∷ xs ≡ front ++ end ∷ [])
  go x [] = ([], x, refl)
  go x (y ∷ ys) = (let w = go y ys in (x ∷ w.0, w.1, ap (λ l. x ∷ l) w.2))

nothing_taken : {A : Type 0} (n : ℕ) (xs : List A) → 0 < n → take n xs ≡ [] → xs ≡ []
nothing_taken zero xs h e = absurd (omega arith)
nothing_taken (suc n) [] h e = refl
nothing_taken (suc n) (x ∷ xs) h e = cc

among_middle : {A : Type 0} (front : List A) (x : A) (back : List A) → Among x (front ++ x ∷ back)
among_middle [] x back = inl refl
among_middle (y ∷ front) x back = inr (among_middle front x back)

abbrev pub joined : List (List Record) → List Record
joined pages = flat_map (λ page. page) pages

joined_reversed : (records : List Record) (pages : List (List Record)) → joined (reverse (records ∷ pages)) ≡ joined (reverse pages) ++ records
joined_reversed records pages =
    ap (λ l. flat_map (λ page. page) l) (reverse-append (records ∷ []) pages) ∙ flat_map-append (λ page. page) (reverse pages) (records ∷ [])
    ∙ ap (λ l. flat_map (λ page. page) (reverse pages) ++ l) (append-nil records)

no_length : {A : Type 0} (xs : List A) → length xs ≤ 0 → xs ≡ []
no_length [] h = refl
no_length (x ∷ xs) h = absurd (omega arith)

take_none : {A : Type 0} (n : ℕ) (xs : List A) → xs ≡ [] → take n xs ≡ []
take_none zero xs e = refl
take_none (suc n) [] e = refl
take_none (suc n) (x ∷ xs) e = cc

pub drop_none : {A : Type 0} (n : ℕ) (xs : List A) → xs ≡ [] → drop n xs ≡ []
drop_none zero xs e = e
drop_none (suc n) [] e = refl
drop_none (suc n) (x ∷ xs) e = cc

nothing_last : {A : Type 0} (n : ℕ) (xs : List A) → 0 < n → drop (length xs - n) xs ≡ [] → xs ≡ []
nothing_last n xs h e = no_length xs (let l = sym (length-drop (length xs - n) xs) ∙ ap length e in omega arith)

-- a list that is cut behind its first n items, of which `end` is the last
cut_behind : {A : Type 0} (n : ℕ) (xs front : List A) (end : A) → take n xs ≡ front ++ end ∷ [] → xs ≡ front ++ end ∷ drop n xs
cut_behind n xs front end e = sym (take-append-drop n xs) ∙ ap (λ l. l ++ drop n xs) e ∙ append_assoc front (end ∷ []) (drop n xs)

-- a list that is cut before its last items, of which `start` is the first
cut_before : {A : Type 0} (k : ℕ) (xs rest : List A) (start : A) → drop k xs ≡ start ∷ rest → xs ≡ take k xs ++ start ∷ rest
cut_before k xs rest start e = sym (take-append-drop k xs) ∙ ap (λ l. take k xs ++ l) e

same_records : (xs ys : List Record) (o : Option Page) → o ≡ Some (of_records xs) → o ≡ Some (of_records ys) → xs ≡ ys
same_records xs ys o p q = cc

-- ---- one page

module _ (changes : List Change) (scope : Scope) (target : List ℕ) (limit : ℕ) where
  abbrev all : List Record
  all = records_in (norm changes) (buffer_of scope target)

  abbrev n : ℕ
  n = min limit scope.maximum

  latest_page : page changes scope (Latest target None limit) ≡ Some (of_records (last n all))
  unfolding page_in
  latest_page = refl

  sorted : IsStrictlySortedBy (on spot_of spot_cmp) all
  sorted = records_sorted (norm changes) (buffer_of scope target)

  positioned : (front back : List Record) (r : Record) → all ≡ front ++ r ∷ back → position_in (norm changes) (buffer_of scope target) r.id ≡ Some r.at
  positioned front back r e =
      ap (λ o. option_and_then message_moment o) (record_of (norm changes) (norm_keyed changes) (buffer_of scope target) r (subst (λ l. Among r l) (sym e) (among_middle front r back))).1

  module _ (some : 0 < n) where
    module _ (front back : List Record) (r : Record) (e : all ≡ front ++ r ∷ back) where
      after_page : page changes scope (After target (Message r.id) limit) ≡ Some (of_records (take n back))
      unfolding page_in
      after_page =
          ap (λ o. option_map (λ (p : Point). of_records (take n (filter (is_after p) all))) (option_map (λ (t : ℕ). spot t r.id) o)) (positioned front back r e)
          ∙ ap (λ l. Some (of_records (take n l)))
          (ap (λ l. filter (λ q. is_lt (on spot_of spot_cmp r q)) l) e ∙ after_it (on_total spot_of spot_total) front r back (subst (λ l. IsStrictlySortedBy (on spot_of spot_cmp) l) e sorted))

      before_page : page changes scope (Before target (Message r.id) limit) ≡ Some (of_records (last n front))
      unfolding page_in
      before_page =
          ap (λ o. option_map (λ (p : Point). of_records (last n (filter (is_before p) all))) (option_map (λ (t : ℕ). spot t r.id) o)) (positioned front back r e)
          ∙ ap (λ l. Some (of_records (last n l)))
          (ap (λ l. filter (λ q. is_lt (on spot_of spot_cmp q r)) l) e ∙ before_it (on_total spot_of spot_total) front r back (subst (λ l. IsStrictlySortedBy (on spot_of spot_cmp) l) e sorted))

    -- ---- forward

    pub follow_all : (front back : List Record) (r : Record) → all ≡ front ++ r ∷ back → (pages : List (List Record)) → FollowPages changes scope target limit r.id pages → joined pages ≡ back
    follow_all front back r e [] w = sym (nothing_taken n back some (same_records _ _ _ (after_page front back r e) w))
    follow_all front back r e (records ∷ pages) w =
        let same : take n back ≡ records = same_records _ _ _ (after_page front back r e) w.3 in
        let cut : back ≡ w.0 ++ w.1 ∷ drop n back = cut_behind n back w.0 w.1 (same ∙ w.2) in
        let there : all ≡ (front ++ r ∷ w.0) ++ w.1 ∷ drop n back = e ∙ ap (λ l. front ++ r ∷ l) cut ∙ sym (append_assoc front (r ∷ w.0) (w.1 ∷ drop n back)) in
        ap (λ l. records ++ l) (follow_all (front ++ r ∷ w.0) (drop n back) w.1 there pages w.4) ∙ ap (λ l. l ++ drop n back) (sym same) ∙ take-append-drop n back

    pub follow_ends : (k : ℕ) (front back : List Record) (r : Record) → length back ≤ k → all ≡ front ++ r ∷ back → (pages : List (List Record)) × FollowPages changes scope target limit r.id pages
    follow_ends zero front back r h e =
        ([], after_page front back r e ∙ ap (λ l. Some (of_records l)) (take_none n back (no_length back h)))
    follow_ends (suc k) front back r h e = go (λ g b q l d. follow_ends k g b q l d) (with_end (take n back)) where
      go : ((g b : List Record) (q : Record) → length b ≤ k → all ≡ g ++ q ∷ b → (pages : List (List Record)) × FollowPages changes scope target limit q.id pages)
          → ((take n back ≡ []) ⊎ ((f : List Record) × (end : Record) × (take n back ≡ f ++ end ∷ []))) → (pages : List (List Record)) × FollowPages changes scope target limit r.id pages
      go again (inl none) = ([], after_page front back r e ∙ ap (λ l. Some (of_records l)) none)
      go again (inr w) =
          let cut : back ≡ w.0 ++ w.1 ∷ drop n back = cut_behind n back w.0 w.1 w.2 in
          let there : all ≡ (front ++ r ∷ w.0) ++ w.1 ∷ drop n back = e ∙ ap (λ l. front ++ r ∷ l) cut ∙ sym (append_assoc front (r ∷ w.0) (w.1 ∷ drop n back)) in
          let more = again (front ++ r ∷ w.0) (drop n back) w.1 (let l = length-drop n back in omega arith) there in
          (take n back ∷ more.0, (w.0, w.1, w.2, after_page front back r e, more.1))

    -- ---- backward

    pub precede_all : (front back : List Record) (r : Record) → all ≡ front ++ r ∷ back → (pages : List (List Record)) → PrecedePages changes scope target limit r.id pages → joined (reverse pages) ≡ front
    precede_all front back r e [] w = sym (nothing_last n front some (same_records _ _ _ (before_page front back r e) w))
    precede_all front back r e (records ∷ pages) w =
        let k = length front - n in
        let same : drop k front ≡ records = same_records _ _ _ (before_page front back r e) w.3 in
        let cut : front ≡ take k front ++ w.0 ∷ w.1 = cut_before k front w.1 w.0 (same ∙ w.2) in
        let there : all ≡ take k front ++ w.0 ∷ (w.1 ++ r ∷ back) = e ∙ ap (λ l. l ++ r ∷ back) cut ∙ append_assoc (take k front) (w.0 ∷ w.1) (r ∷ back) in
        joined_reversed records pages ∙ ap (λ l. l ++ records) (precede_all (take k front) (w.1 ++ r ∷ back) w.0 there pages w.4)
        ∙ ap (λ l. take k front ++ l) (sym same) ∙ take-append-drop k front

    pub latest_all : (pages : List (List Record)) → LatestPages changes scope target limit pages → joined (reverse pages) ≡ all
    latest_all [] w = sym (nothing_last n all some (same_records _ _ _ latest_page w))
    latest_all (records ∷ pages) w =
        let k = length all - n in
        let same : drop k all ≡ records = same_records _ _ _ latest_page w.3 in
        let cut : all ≡ take k all ++ w.0 ∷ w.1 = cut_before k all w.1 w.0 (same ∙ w.2) in
        joined_reversed records pages ∙ ap (λ l. l ++ records) (precede_all (take k all) w.1 w.0 cut pages w.4)
        ∙ ap (λ l. take k all ++ l) (sym same) ∙ take-append-drop k all

    pub precede_ends : (k : ℕ) (front back : List Record) (r : Record) → length front ≤ k → all ≡ front ++ r ∷ back → (pages : List (List Record)) × PrecedePages changes scope target limit r.id pages
    precede_ends zero front back r h e =
        ([], before_page front back r e ∙ ap (λ l. Some (of_records l)) (drop_none (length front - n) front (no_length front h)))
    precede_ends (suc k) front back r h e = go (λ g b q l d. precede_ends k g b q l d) (last n front) refl where
      go : ((g b : List Record) (q : Record) → length g ≤ k → all ≡ g ++ q ∷ b → (pages : List (List Record)) × PrecedePages changes scope target limit q.id pages)
          → (records : List Record) → last n front ≡ records → (pages : List (List Record)) × PrecedePages changes scope target limit r.id pages
      go again [] none = ([], before_page front back r e ∙ ap (λ l. Some (of_records l)) none)
      go again (start ∷ rest) is =
          let j = length front - n in
          let cut : front ≡ take j front ++ start ∷ rest = cut_before j front rest start is in
          let there : all ≡ take j front ++ start ∷ (rest ++ r ∷ back) = e ∙ ap (λ l. l ++ r ∷ back) cut ∙ append_assoc (take j front) (start ∷ rest) (r ∷ back) in
          let more = again (take j front) (rest ++ r ∷ back) start (let l = length-take j front in omega arith) there in
          ((start ∷ rest) ∷ more.0, (start, rest, refl, before_page front back r e ∙ ap (λ l. Some (of_records l)) is, more.1))

    pub latest_ends : (pages : List (List Record)) × LatestPages changes scope target limit pages
    latest_ends = go (last n all) refl where
      go : (records : List Record) → last n all ≡ records → (pages : List (List Record)) × LatestPages changes scope target limit pages
      go [] none = ([], latest_page ∙ ap (λ l. Some (of_records l)) none)
      go (start ∷ rest) is =
          let cut : all ≡ take (length all - n) all ++ start ∷ rest = cut_before (length all - n) all rest start is in
          let more = precede_ends (length (take (length all - n) all)) (take (length all - n) all) rest start (omega arith) cut in
          ((start ∷ rest) ∷ more.0, (start, rest, refl, latest_page ∙ ap (λ l. Some (of_records l)) is, more.1))
