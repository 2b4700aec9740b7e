-- Each step keeps the rule of the places.
use Rattle.std.proofs.Common.{◌≡◌, ◌≢◌, inl, inr, replicate, eq-eqb, ne_eqb, ℕ, zero, suc, ◌<◌, eqb, List, [], ◌∷◌, ◌++◌, Option, Some, None, length, get_or, set, sym, refl, ap, ◌∙◌, subst, arith, length-set, get_or-set_same, get_or-set_other}
use Rattle.std.proofs.lemmas.List.{set-get_or, length-replicate}
use Rattle.std.proofs.lemmas.Bool.{cases_eq}
use mathlib.Core.Logic.{dite}
use mathlib.Core.Option.{none, some, some-injective, some-ne-none}
use native.Mathlib.Decide.{ℕ_discrete}
use lib.ListN.{get_elem?}
use prog.Atomic.{either}
use Rattle.atomic_table.specs.Table.{Me, Step, step, keeps, stepped, opening, Allows, Splits}
use Rattle.attach.specs.Hold.{IsOneHolder}
use Rattle.attach.specs.Laws.{AHeldPlaceIsTaken, APlaceIsFreeOrHeld, TwoStandsHaveDifferentPlaces}
use Rattle.attach.specs.Steps.{PlaceState, Reached, Holds, IsClaim, IsRelease, IsReleaseOfTaken, after_step, exchanged_word, seat_with}
use Rattle.attach.specs.Steps.Reached.{made, split_off, claims as claims_one, releases, drops}
use Rattle.atomic_table.proofs.Lists.{at_set, set_here, set_else, set_again, at_longer, at_snoc}

-- a seat with this view holds just this place
same_place : (views : List (Option ℕ)) (seat place other : ℕ) → Holds views seat place → Holds views seat other → place ≡ other
same_place views seat place other a b = let e : Some place ≡ Some other = some-injective _ _ (sym a ∙ b) in cc

holds_none : (views : List (Option ℕ)) (seat place : ℕ) → get_elem? views seat ≡ some None → Holds views seat place → ⊥
holds_none views seat place a b = let e : None ≡ Some place = some-injective _ _ (sym a ∙ b) in cc

there : {A : Type 0} (l : List A) (i : ℕ) (a : A) → get_elem? l i ≡ some a → i < length l
there [] i a e = absurd (some-ne-none a (sym e))
there (x ∷ xs) zero a e = omega arith
there (x ∷ xs) (suc i) a e = omega (arith, there xs i a e)

-- the holder of the place gives it up, and its word becomes 0
gives : (count id place : ℕ) (s : PlaceState) → IsOneHolder count s → Holds s.views id place → IsOneHolder count (stepped s place 0 id [] None keeps)
gives count id place s r at =
    record {
      width = length-set s.words place 0 ∙ r.width;
      taken_if_held = λ seat other h. elim (at_set s.views id seat None (Some other) h) [
        | inl e ↦ absurd (cc)
        | inr e ↦
            let old = r.taken_if_held seat other e.1 in
            let apart : other ≢ place = λ same. e.0 (r.alone seat id place (subst (λ p. Holds s.views seat p) same e.1) at) in
            (old.0, get_or-set_other s.words place other 0 0 apart ∙ old.1)
      ];
      alone = λ seat other p h k. elim (at_set s.views id seat None (Some p) h) [
        | inl e ↦ absurd (cc)
        | inr e ↦ elim (at_set s.views id other None (Some p) k) [
          | inl f ↦ absurd (cc)
          | inr f ↦ r.alone seat other p e.1 f.1
        ]
      ];
      free_or_held = λ p within. elim (cases_eq p place) [
        | inl same ↦ inl (ap (λ x. get_or (set s.words place 0) x 0) same ∙ get_or-set_same s.words place 0 0 (omega (arith, (r.taken_if_held id place at).0, r.width)))
        | inr apart ↦ elim (r.free_or_held p within) [
          | inl free ↦ inl (get_or-set_other s.words place p 0 0 apart ∙ free)
          | inr held ↦
              let other : held.0 ≢ id = λ same. apart (same_place s.views id p place (subst (λ x. Holds s.views x p) same held.1) at) in
              inr (held.0, set_else s.views id held.0 None other ∙ held.1)
        ]
      ];
    }

pub frees : (count slots id place : ℕ) → Allows (IsOneHolder count) slots id (Some place, []) place (λ _. 0) (IsReleaseOfTaken (step slots place 0 0 none) (Some place, []))
frees count slots id place s r _ at _ = (None, keeps, tt, gives count id place s r at, ((r.taken_if_held id place at).1, record { puts = refl; before = refl; after = refl }))

zeros : (n i : ℕ) → ◌≡◌ {A = ℕ} (get_or (replicate n 0) i 0) 0
zeros zero i = refl
zeros (suc n) zero = refl
zeros (suc n) (suc i) = zeros n i

-- a new table, where each word is 0
pub opens : (count : ℕ) (words : List ℕ) → words ≡ replicate count 0 → IsOneHolder count (opening words [] None)
opens count words are =
    record {
      width = ap length are ∙ length-replicate count 0;
      taken_if_held = λ seat place h. absurd (none_there seat place h);
      alone = λ seat other place h k. absurd (none_there seat place h);
      free_or_held = λ place within. inl (ap (λ l. get_or l place 0) are ∙ zeros count place);
    }
  where
    none_there : (seat place : ℕ) → Holds (None ∷ []) seat place → ⊥
    none_there zero place h = holds_none (None ∷ []) zero place refl h
    none_there (suc seat) place h = some-ne-none _ (sym h)

-- a new seat, which holds no place
pub splits : (count id : ℕ) (view : Option ℕ) → Splits (IsOneHolder count) id view view None
splits count id view s r at =
    let same : set s.views id view ≡ s.views = set_again s.views id view at in
    let old = λ (seat : ℕ) (place : ℕ) (h : Holds (set s.views id view ++ None ∷ []) seat place).
    elim (at_snoc s.views None (Some place) seat (rw same at h)) as (λ _. Holds s.views seat place) [
      | inl e ↦ e
      | inr e ↦ absurd (cc)
    ]
    in record {
      width = r.width;
      taken_if_held = λ seat place h. r.taken_if_held seat place (old seat place h);
      alone = λ seat other place h k. r.alone seat other place (old seat place h) (old other place k);
      free_or_held = λ place within. elim (r.free_or_held place within) [
        | inl free ↦ inl free
        | inr held ↦ inr (held.0, rw same (at_longer s.views (None ∷ []) held.0 (Some place) held.1))
      ];
    }

-- the seat takes a place whose word was 0, and the word becomes 1
takes : (count id place : ℕ) (s : PlaceState) → IsOneHolder count s → get_elem? s.views id ≡ some None → place < count → get_or s.words place 0 ≡ 0
    → IsOneHolder count (stepped s place 1 id [] (Some place) keeps)
takes count id place s r at small free =
    let clear = λ (seat : ℕ) (h : Holds s.views seat place). let one = (r.taken_if_held seat place h).1 in let no : ◌≡◌ {A = ℕ} 0 1 = sym free ∙ one in absurd {A = ⊥} (omega (arith, no)) in record {
      width = length-set s.words place 1 ∙ r.width;
      taken_if_held = λ seat other h. elim (at_set s.views id seat (Some place) (Some other) h) [
        | inl e ↦ let same : place ≡ other = cc in subst (λ p. (p < count) × (get_or (set s.words place 1) p 0 ≡ 1)) same (small, get_or-set_same s.words place 1 0 (omega (arith, r.width)))
        | inr e ↦
            let old = r.taken_if_held seat other e.1 in
            let apart : other ≢ place = λ same. clear seat (subst (λ p. Holds s.views seat p) same e.1) in
            (old.0, get_or-set_other s.words place other 1 0 apart ∙ old.1)
      ];
      alone = λ seat other p h k. elim (at_set s.views id seat (Some place) (Some p) h) [
        | inl e ↦ elim (at_set s.views id other (Some place) (Some p) k) [
          | inl f ↦ e.0 ∙ sym f.0
          | inr f ↦ let same : p ≡ place = cc in absurd (clear other (subst (λ q. Holds s.views other q) same f.1))
        ]
        | inr e ↦ elim (at_set s.views id other (Some place) (Some p) k) [
          | inl f ↦ let same : p ≡ place = cc in absurd (clear seat (subst (λ q. Holds s.views seat q) same e.1))
          | inr f ↦ r.alone seat other p e.1 f.1
        ]
      ];
      free_or_held = λ p within. elim (cases_eq p place) [
        | inl same ↦ inr (id, set_here s.views id (Some place) (there s.views id None at) ∙ ap (λ q. some (Some q)) (sym same))
        | inr apart ↦ elim (r.free_or_held p within) [
          | inl is ↦ inl (get_or-set_other s.words place p 1 0 apart ∙ is)
          | inr held ↦
              let other : held.0 ≢ id = λ same. holds_none s.views id p at (subst (λ x. Holds s.views x p) same held.1) in
              inr (held.0, set_else s.views id held.0 (Some place) other ∙ held.1)
        ]
      ];
    }

-- nothing changes
unmoved : (count id place : ℕ) (s : PlaceState) → get_elem? s.views id ≡ some None → IsOneHolder count s → IsOneHolder count (stepped s place (get_or s.words place 0) id [] None keeps)
unmoved count id place s at r =
    let words = set-get_or s.words place 0 in
    let views = set_again s.views id None at in
    let same : record { words = set s.words place (get_or s.words place 0); homes = s.homes; views = set s.views id None } ≡ s = λ i. record { words = words i; homes = s.homes; views = views i } in
    subst (IsOneHolder count) (sym same) r

-- a seat that holds no place tries this one
pub claims : (count slots id place : ℕ) → place < count → Allows (IsOneHolder count) slots id (None, []) place (λ n. either (eqb n 0) 1 n) (IsClaim (step slots place 0 1 none) (None, []))
claims count slots id place small s r _ at _ = let x : ℕ = get_or s.words place 0 in dite (ℕ_discrete x 0)
    (λ hit. (
      Some place,
      keeps,
      tt,
      subst (λ b. IsOneHolder count (stepped s place (either b 1 x) id [] (Some place) keeps)) (sym (eq-eqb x 0 hit)) (takes count id place s r at small hit),
      record { expects = refl; puts = refl; before = refl; won = λ _. refl; lost = λ not. absurd (not hit) },
    ))
    (λ miss. (
      None,
      keeps,
      tt,
      subst (λ b. IsOneHolder count (stepped s place (either b 1 x) id [] None keeps)) (sym (ne_eqb x 0 miss)) (unmoved count id place s at r),
      record { expects = refl; puts = refl; before = refl; won = λ hit. absurd (miss hit); lost = λ _. refl },
    ))

-- the same, of a seat that is known to be so
pub frees_at : (count slots id place : ℕ) (me : Me (Unit {0}) (Option ℕ)) → me ≡ (Some place, []) → Allows (IsOneHolder count) slots id me place (λ _. 0) (IsReleaseOfTaken (step slots place 0 0 none) me)
frees_at count slots id place me is =
    subst (λ (m : Me (Unit {0}) (Option ℕ)). Allows (IsOneHolder count) slots id m place (λ _. 0) (IsReleaseOfTaken (step slots place 0 0 none) m)) (sym is) (frees count slots id place)

pub claims_at : (count slots id place : ℕ) (me : Me (Unit {0}) (Option ℕ)) → me ≡ (None, []) → place < count → Allows (IsOneHolder count) slots id me place (λ n. either (eqb n 0) 1 n) (IsClaim (step slots place 0 1 none) me)
claims_at count slots id place me is small =
    subst (λ (m : Me (Unit {0}) (Option ℕ)). Allows (IsOneHolder count) slots id m place (λ n. either (eqb n 0) 1 n) (IsClaim (step slots place 0 1 none) m)) (sym is) (claims count slots id place small)

-- a claim that the code's play tells leaves the rule as it was
claim_keeps : (count seat : ℕ) (view view' : Option ℕ) (st : Step (Unit {0})) (s : PlaceState) → IsOneHolder count s → get_elem? s.views seat ≡ some view → st.word < count
    → IsClaim st (seat_with view) (get_or s.words st.word 0) (seat_with view') → IsOneHolder count (after_step s st.word (exchanged_word st (get_or s.words st.word 0)) seat view')
claim_keeps count seat view view' st s r at within is = let x : ℕ = get_or s.words st.word 0 in dite (ℕ_discrete x 0)
    (λ hit. let word : exchanged_word st x ≡ 1 = put ∙ ap (λ b. either b 1 x) (eq-eqb x 0 hit) in
    subst (λ n. IsOneHolder count (after_step s st.word n seat view')) (sym word)
    (subst (λ v. IsOneHolder count (after_step s st.word 1 seat v)) (sym (ap (λ (m : Me (Unit {0}) (Option ℕ)). m.0) (is.won hit))) (takes count seat st.word s r none_there within hit)))
    (λ miss. let word : exchanged_word st x ≡ x = put ∙ ap (λ b. either b 1 x) (ne_eqb x 0 miss) in
    subst (λ n. IsOneHolder count (after_step s st.word n seat view')) (sym word)
    (subst (λ v. IsOneHolder count (after_step s st.word x seat v)) (sym (ap (λ (m : Me (Unit {0}) (Option ℕ)). m.0) (is.lost miss))) (unmoved count seat st.word s none_there r)))
  where
    none_there : get_elem? s.views seat ≡ some None
    none_there = at ∙ ap (λ (m : Me (Unit {0}) (Option ℕ)). some m.0) is.before

    put : exchanged_word st (get_or s.words st.word 0) ≡ either (eqb (get_or s.words st.word 0) 0) 1 (get_or s.words st.word 0)
    put = ap (λ f. either (eqb (get_or s.words st.word 0) f) st.second (get_or s.words st.word 0)) is.expects
        ∙ ap (λ n. either (eqb (get_or s.words st.word 0) 0) n (get_or s.words st.word 0)) is.puts

-- and so does a release
release_keeps : (count seat : ℕ) (view view' : Option ℕ) (st : Step (Unit {0})) (s : PlaceState) → IsOneHolder count s → get_elem? s.views seat ≡ some view
    → IsRelease st (seat_with view) (seat_with view') → IsOneHolder count (after_step s st.word st.first seat view')
release_keeps count seat view view' st s r at is =
    subst (λ n. IsOneHolder count (after_step s st.word n seat view')) (sym is.puts)
    (subst (λ v. IsOneHolder count (after_step s st.word 0 seat v)) (sym (ap (λ (m : Me (Unit {0}) (Option ℕ)). m.0) is.after))
    (gives count seat st.word s r (at ∙ ap (λ (m : Me (Unit {0}) (Option ℕ)). some m.0) is.before)))

-- the rule holds wherever the steps lead
reached : (count : ℕ) (s : PlaceState) → Reached count s → IsOneHolder count s
reached count _ made = opens count (replicate count 0) refl
reached count _ (split_off s seat view r at) = splits count seat view s (reached count s r) at
reached count _ (claims_one s seat view view' st r at within is) = claim_keeps count seat view view' st s (reached count s r) at within is
reached count _ (releases s seat view view' st r at is) = release_keeps count seat view view' st s (reached count s r) at is
reached count _ (drops s seat r at) = reached count s r

pub two_stands_have_different_places : TwoStandsHaveDifferentPlaces
two_stands_have_different_places count s one other place elsewhere r apart h k same =
    apart ((reached count s r).alone one other place h (subst (λ p. Holds s.views other p) (sym same) k))

pub a_held_place_is_taken : AHeldPlaceIsTaken
a_held_place_is_taken count s seat place r h = ((reached count s r).taken_if_held seat place h).1

pub a_place_is_free_or_held : APlaceIsFreeOrHeld
a_place_is_free_or_held count s place r within = (reached count s r).free_or_held place within
