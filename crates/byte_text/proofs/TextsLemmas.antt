-- A text for each item of a list, written one after another: at each place, what stands before, here and behind.
use Rattle.std.proofs.Common.{◌≡◌, ℕ, ◌+◌, ◌<◌, List, get_or, length, map, take, drop, ◌++◌, ◌∷◌, [], sym, ap, ◌∙◌, append_assoc, append-nil}
use Rattle.std.specs.List.{flat_map}
use Rattle.std.proofs.lemmas.List.{take_more, map-append, map-id, take-append-drop}
use Rattle.std.proofs.lemmas.List.Concat.{flat_map-append}

-- the text of what each item shows
module _ {M A : Type 0} (shown : M → A) (text : A → List ℕ) where
  texts-append : (ms ns : List M) → flat_map text (map shown (ms ++ ns)) ≡ flat_map text (map shown ms) ++ flat_map text (map shown ns)
  texts-append ms ns = ap (flat_map text) (map-append shown ms ns) ∙ flat_map-append text (map shown ms) (map shown ns)

  texts_more : (ms : List M) (i : ℕ) (d : M) → i < length ms
      → flat_map text (map shown (take (i + 1) ms)) ≡ flat_map text (map shown (take i ms)) ++ text (shown (get_or ms i d))
  texts_more ms i d h =
      ap (λ l. flat_map text (map shown l)) (take_more ms i d h) ∙ texts-append (take i ms) (get_or ms i d ∷ [])
      ∙ ap (λ l. flat_map text (map shown (take i ms)) ++ l) (append-nil (text (shown (get_or ms i d))))

  texts_split : (ms : List M) (i : ℕ) (d : M) → i < length ms
      → flat_map text (map shown (take i ms)) ++ (text (shown (get_or ms i d)) ++ flat_map text (map shown (drop (i + 1) ms))) ≡ flat_map text (map shown ms)
  texts_split ms i d h =
      sym (append_assoc (flat_map text (map shown (take i ms))) (text (shown (get_or ms i d))) (flat_map text (map shown (drop (i + 1) ms))))
      ∙ ap (λ l. l ++ flat_map text (map shown (drop (i + 1) ms))) (sym (texts_more ms i d h))
      ∙ sym (texts-append (take (i + 1) ms) (drop (i + 1) ms)) ∙ ap (λ l. flat_map text (map shown l)) (take-append-drop (i + 1) ms)

  pub texts_at : (ms : List M) (i : ℕ) (x : M) → x ≡ get_or ms i x → i < length ms
      → flat_map text (map shown (take i ms)) ++ (text (shown x) ++ flat_map text (map shown (drop (i + 1) ms))) ≡ flat_map text (map shown ms)
  texts_at ms i x is h =
      ap (λ (p : M). flat_map text (map shown (take i ms)) ++ (text (shown p) ++ flat_map text (map shown (drop (i + 1) ms)))) is ∙ texts_split ms i x h

  pub texts_through : (ms : List M) (i : ℕ) (x : M) → x ≡ get_or ms i x → i < length ms
      → flat_map text (map shown (take i ms)) ++ text (shown x) ≡ flat_map text (map shown (take (i + 1) ms))
  texts_through ms i x is h =
      ap (λ (p : M). flat_map text (map shown (take i ms)) ++ text (shown p)) is ∙ sym (texts_more ms i x h)

-- the text of each item itself
module _ {A : Type 0} (text : A → List ℕ) where
  pub own_texts_at : (ms : List A) (i : ℕ) (x : A) → x ≡ get_or ms i x → i < length ms
      → flat_map text (take i ms) ++ (text x ++ flat_map text (drop (i + 1) ms)) ≡ flat_map text ms
  own_texts_at ms i x is h =
      (λ j. flat_map text (sym (map-id (take i ms)) j) ++ (text x ++ flat_map text (sym (map-id (drop (i + 1) ms)) j)))
      ∙ texts_at (λ y. y) text ms i x is h ∙ ap (flat_map text) (map-id ms)

  pub own_texts_through : (ms : List A) (i : ℕ) (x : A) → x ≡ get_or ms i x → i < length ms
      → flat_map text (take i ms) ++ text x ≡ flat_map text (take (i + 1) ms)
  own_texts_through ms i x is h =
      ap (λ l. flat_map text l ++ text x) (sym (map-id (take i ms))) ∙ texts_through (λ y. y) text ms i x is h
      ∙ ap (flat_map text) (map-id (take (i + 1) ms))
