-- A list with the first that passes changed.
use Rattle.std.proofs.Common.{◌≡◌, ℕ, zero, suc, ◌+◌, ◌<◌, ◌≤◌, Bool, true, false, cond, nat_lt, not, List, [], ◌∷◌, length, get_or, None, Some, position, refl, sym, ap, ◌∙◌, arith}
use Rattle.std.specs.List.{position_or_len}
use Rattle.std.proofs.Math.ListN.{set}
use Rattle.std.proofs.lemmas.Bool.Decides.{nat_tests}
use Rattle.std.proofs.lemmas.List.Quantifiers.{position-Some}
use Rattle.cluster_directory.specs.Directory.{with_first}

none_at : (b : Bool) (n : ℕ) → cond b (Some n) None ≡ None → b ≡ false
none_at true n h = absurd (cc)
none_at false n h = refl

module _ {X : Type 0} (p : X → Bool) (f : X → X) where
  changed_at : (xs : List X) (i : ℕ) (d : X) → i < length xs → p (get_or xs i d) ≡ true
      → ((k : ℕ) → k < i → p (get_or xs k d) ≡ false) → with_first p f xs ≡ set xs i (f (get_or xs i d))
  changed_at [] i d h is below = absurd (omega arith)
  changed_at (x ∷ xs) zero d h is below = ap (λ b. cond b (f x ∷ xs) (x ∷ with_first p f xs)) is
  changed_at (x ∷ xs) (suc i) d h is below =
      ap (λ b. cond b (f x ∷ xs) (x ∷ with_first p f xs)) (below 0 (omega arith))
      ∙ ap (λ l. x ∷ l) (changed_at xs i d (omega arith) is (λ k less. below (suc k) (omega arith)))

  first_changed : (xs : List X) (i : ℕ) (d : X) → position p xs ≡ Some i → with_first p f xs ≡ set xs i (f (get_or xs i d))
  first_changed xs i d h = let at = position-Some p xs i d h in changed_at xs i d at.0 at.1 at.2

  pub first_set : (xs ys : List X) (at : ℕ) (new old : X) → ys ≡ xs → position p xs ≡ Some at → new ≡ f old → old ≡ get_or ys at old
      → set ys at new ≡ with_first p f xs
  first_set xs ys at new old same h e g =
      ap (λ l. set l at new) same
      ∙ ap (λ x. set xs at x) (e ∙ ap f (g ∙ ap (λ l. get_or l at old) same))
      ∙ sym (first_changed xs at old h)

  unchanged_from : (x : X) (xs : List X) (b : Bool) → p x ≡ b → suc (length xs) ≤ position_or_len p (x ∷ xs)
      → (length xs ≤ position_or_len p xs → with_first p f xs ≡ xs) → cond b (f x ∷ xs) (x ∷ with_first p f xs) ≡ x ∷ xs
  unchanged_from x xs true e h rest =
      let here : position_or_len p (x ∷ xs) ≡ 0 = ap (λ b. cond (not b) (1 + position_or_len p xs) 0) e in
      absurd (omega arith)
  unchanged_from x xs false e h rest =
      let further : position_or_len p (x ∷ xs) ≡ 1 + position_or_len p xs = ap (λ b. cond (not b) (1 + position_or_len p xs) 0) e in
      ap (λ l. x ∷ l) (rest (omega arith))

  unchanged : (xs : List X) → length xs ≤ position_or_len p xs → with_first p f xs ≡ xs
  unchanged [] h = refl
  unchanged (x ∷ xs) h = unchanged_from x xs (p x) refl h (λ k. unchanged xs k)

  pub none_changed : (xs : List X) → position p xs ≡ None → with_first p f xs ≡ xs
  none_changed xs h =
      let e = none_at (nat_lt (position_or_len p xs) (length xs)) (position_or_len p xs) h in
      unchanged xs (grind (arith, nat_tests))
