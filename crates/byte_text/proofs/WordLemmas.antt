-- Words that are seen by looks for one byte each.
use Rattle.std.proofs.Common.{◌≡◌, ℕ, not, ◌&&◌, ◌||◌, ◌==◌, List, [], ◌∷◌, refl, ap, ◌∙◌, true, false, Bool}
use Rattle.std.specs.List.{list_any}
use Rattle.byte_text.specs.Bytes.{ends_line}
use Rattle.byte_text.specs.Words.{ends_word}

-- a test is passed by none, nor is another, exactly where none passes either
neither : (p q : ℕ → Bool) (text : List ℕ) → not (list_any p text) && not (list_any q text) ≡ not (list_any (λ b. p b || q b) text)
neither p q [] = refl
neither p q (b ∷ text) = go (p b) (q b) (list_any p text) (list_any q text) (list_any (λ b. p b || q b) text) (neither p q text) where
  go : (x y xs ys both : Bool) → not xs && not ys ≡ not both → not (x || xs) && not (y || ys) ≡ not ((x || y) || both)
  go true y xs ys both e = refl
  go false true true ys both e = refl
  go false true false ys both e = refl
  go false false xs ys both e = e

-- none of the bytes that end a word is there
pub no_word_end : (text : List ℕ)
    → ((not (list_any (λ b. b == 0) text) && not (list_any (λ b. b == 10) text)) && not (list_any (λ b. b == 13) text)) && not (list_any (λ b. b == 32) text)
    ≡ not (list_any ends_word text)
no_word_end text =
    ap (λ x. x && not (list_any (λ b. b == 32) text))
    (ap (λ x. x && not (list_any (λ b. b == 13) text)) (neither (λ b. b == 0) (λ b. b == 10) text)
    ∙ neither (λ b. (b == 0) || (b == 10)) (λ b. b == 13) text)
    ∙ neither (λ b. ends_line b) (λ b. b == 32) text
