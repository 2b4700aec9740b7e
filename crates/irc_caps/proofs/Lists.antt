-- Lists of words.
use Rattle.std.proofs.Common.{◌≡◌, ℕ, ◌+◌, ◌<◌, zero, suc, List, [], ◌∷◌, ◌++◌, length, get_or, take, map, filter, refl, sym, ap, ◌∙◌, append_assoc, arith, true, false, Bool, cond}
use Rattle.std.proofs.lemmas.List.{take_more, map-append, length-map, length-take}
use Rattle.std.proofs.lemmas.List.Elements.{filter-append}
use Rattle.irc_caps.specs.Words.{joined, only_if}
use Rattle.irc_caps.specs.Gaps.{gap_before}

pub gap_is : (i : ℕ) → 0 < i → gap_before i ≡ 32 ∷ []
gap_is zero h = absurd (omega arith)
gap_is (suc n) h = refl

joined-push : (first : List ℕ) (words : List (List ℕ)) (last : List ℕ) → joined ((first ∷ words) ++ last ∷ []) ≡ (joined (first ∷ words) ++ 32 ∷ []) ++ last
joined-push first [] last = sym (append_assoc first (32 ∷ []) last)
joined-push first (second ∷ words) last =
    ap (λ l. first ++ (32 ∷ l)) (joined-push second words last)
    ∙ sym (append_assoc first (32 ∷ (joined (second ∷ words) ++ 32 ∷ [])) last)
    ∙ ap (λ l. l ++ last) (sym (append_assoc first (32 ∷ joined (second ∷ words)) (32 ∷ [])))

pushed : (words : List (List ℕ)) (last : List ℕ) → joined (words ++ last ∷ []) ≡ (joined words ++ gap_before (length words)) ++ last
pushed [] last = refl
pushed (first ∷ words) last = joined-push first words last

module _ {M : Type 0} (text_of : M → List ℕ) where
  map_more : (ms : List M) (i : ℕ) (d : M) → i < length ms → map text_of (take (i + 1) ms) ≡ map text_of (take i ms) ++ text_of (get_or ms i d) ∷ []
  map_more ms i d h = ap (map text_of) (take_more ms i d h) ∙ map-append text_of (take i ms) (get_or ms i d ∷ [])

  length_is : (ms : List M) (i : ℕ) → i < length ms → length (map text_of (take i ms)) ≡ i
  length_is ms i h = omega (arith, length-map (take i ms) text_of, length-take i ms)

  pub joined_more : (ms : List M) (i : ℕ) (d : M) → i < length ms
      → (joined (map text_of (take i ms)) ++ gap_before i) ++ text_of (get_or ms i d) ≡ joined (map text_of (take (i + 1) ms))
  joined_more ms i d h =
      ap (λ (n : ℕ). (joined (map text_of (take i ms)) ++ gap_before n) ++ text_of (get_or ms i d)) (sym (length_is ms i h))
      ∙ sym (pushed (map text_of (take i ms)) (text_of (get_or ms i d))) ∙ ap joined (sym (map_more ms i d h))

  only_last : (test : M → Bool) (m : M) → map text_of (filter test (m ∷ [])) ≡ only_if (test m) (text_of m)
  only_last test m = elim (test m) as (λ b. map text_of (cond b (m ∷ []) []) ≡ only_if b (text_of m)) [ true ↦ refl | false ↦ refl ]

  -- one more element, and its text where it passes the test
  pub texts_more : (test : M → Bool) (ms : List M) (i : ℕ) (d : M) → i < length ms
      → map text_of (filter test (take i ms)) ++ only_if (test (get_or ms i d)) (text_of (get_or ms i d)) ≡ map text_of (filter test (take (i + 1) ms))
  texts_more test ms i d h =
      ap (λ l. map text_of (filter test (take i ms)) ++ l) (sym (only_last test (get_or ms i d)))
      ∙ sym (map-append text_of (filter test (take i ms)) (filter test (get_or ms i d ∷ [])))
      ∙ ap (map text_of) (sym (filter-append test (take i ms) (get_or ms i d ∷ [])))
      ∙ ap (λ l. map text_of (filter test l)) (sym (take_more ms i d h))

  filter-map : (test : List ℕ → Bool) (ms : List M) → filter test (map text_of ms) ≡ map text_of (filter (λ m. test (text_of m)) ms)
  filter-map test [] = refl
  filter-map test (m ∷ ms) =
      elim (test (text_of m)) as (λ b. cond b (text_of m ∷ filter test (map text_of ms)) (filter test (map text_of ms)) ≡ map text_of (cond b (m ∷ filter (λ m. test (text_of m)) ms) (filter (λ m. test (text_of m)) ms)))
      [ true ↦ ap (λ l. text_of m ∷ l) (filter-map test ms) | false ↦ filter-map test ms ]

  pub filtered_more : (test : List ℕ → Bool) (ms : List M) (i : ℕ) (d : M) → i < length ms
      → filter test (map text_of (take i ms)) ++ only_if (test (text_of (get_or ms i d))) (text_of (get_or ms i d)) ≡ filter test (map text_of (take (i + 1) ms))
  filtered_more test ms i d h =
      ap (λ l. l ++ only_if (test (text_of (get_or ms i d))) (text_of (get_or ms i d))) (filter-map test (take i ms))
      ∙ texts_more (λ m. test (text_of m)) ms i d h
      ∙ sym (filter-map test (take (i + 1) ms))
