-- Bytes that are seen by looks at parts of them, which may overlap.
use Rattle.std.proofs.Common.{◌≡◌, ℕ, zero, suc, ◌-◌, ◌*◌, ◌≤◌, List, [], ◌∷◌, Bool, true, false, not, ◌&&◌, length, take, drop, length-drop, refl, sym, ap, ◌∙◌, arith}
use Rattle.std.proofs.lemmas.Bool.{or_parts, false≢true}
use Rattle.std.proofs.lemmas.List.{take_all}
use Rattle.std.specs.Prelude.{◌||◌, slice_range}
use Rattle.std.specs.List.{list_any}

-- where none passes the test at the beginning, one passes exactly where one does behind a part of that
pub any_behind : (test : ℕ → Bool) (text : List ℕ) (n k : ℕ) → k ≤ n → list_any test (take n text) ≡ false
    → list_any test text ≡ list_any test (drop k text)
any_behind test text n zero l none = refl
any_behind test [] n (suc k) l none = refl
any_behind test (b ∷ text) zero (suc k) l none = absurd (omega (arith, l))
any_behind test (b ∷ text) (suc n) (suc k) l none =
    let parts = or_parts (test b) (list_any test (take n text)) none in
    ap (λ x. x || list_any test text) parts.0 ∙ any_behind test text n k (omega (arith, l)) parts.1

-- where one passes at the beginning, one passes
pub any_within : (test : ℕ → Bool) (text : List ℕ) (n : ℕ) → list_any test (take n text) ≡ true → list_any test text ≡ true
any_within test text zero one = absurd (false≢true one)
any_within test [] (suc n) one = one
any_within test (b ∷ text) (suc n) one = go (test b) (any_within test text n) one where
  go : (x : Bool) → (list_any test (take n text) ≡ true → list_any test text ≡ true)
      → (x || list_any test (take n text)) ≡ true → (x || list_any test text) ≡ true
  go true more h = refl
  go false more h = more h

-- where one look is at the first bytes and one at the last, and these are all of them
pub both_ends : (test : ℕ → Bool) (text : List ℕ) (n : ℕ) → n ≤ length text → length text ≤ 2 * n
    → not (list_any test (take n text)) && not (list_any test (take n (slice_range text (length text - n) (length text)))) ≡ not (list_any test text)
both_ends test text n some few = by_first (list_any test (take n text)) refl where
  by_first : (found : Bool) → list_any test (take n text) ≡ found
      → not found && not (list_any test (take n (slice_range text (length text - n) (length text)))) ≡ not (list_any test text)
  by_first true is = sym (ap not (any_within test text n is))
  by_first false is =
      let size = length-drop (length text - n) text in
      ap (λ l. not (list_any test (take n l))) (take_all (length text - (length text - n)) (drop (length text - n) text) (omega (arith, size)))
      ∙ ap (λ l. not (list_any test l)) (take_all n (drop (length text - n) text) (omega (arith, size)))
      ∙ sym (ap not (any_behind test text n (length text - n) (omega arith) is))
