-- Cutting a list at the first element that passes a test.
use Rattle.std.proofs.Common.{◌≡◌, ℕ, ◌+◌, ◌<◌, ◌≤◌, Bool, false, nat_lt, List, [], ◌∷◌, length, take, drop, length-take, None, Some, position, sym, ap, ◌∙◌, subst, arith, inl, inr}
use Rattle.std.specs.List.{slice_split, position_or_len, before_first, after_first, All}
use Rattle.std.proofs.lemmas.List.{take_all, drop_all, get_or-take}
use Rattle.std.proofs.lemmas.List.Splits.{slice_split_first, slice_split_none}
use Rattle.std.proofs.lemmas.List.Sums.{fails_before_first}
use Rattle.std.proofs.lemmas.Option.{cond_some}
use Rattle.std.proofs.lemmas.Bool.{ltb-true, ltb-false, cases_Bool, cond-true}

module _ {X : Type 0} (p : X → Bool) where
  pub record IsFirst (xs : List X) (n : ℕ) : Type 0 where
    pub place : position_or_len p xs ≡ n
    pub within : n < length xs

  pub first_place : (xs : List X) (n : ℕ) → position p xs ≡ Some n → IsFirst xs n
  first_place xs n e =
      let parts = cond_some (nat_lt (position_or_len p xs) (length xs)) _ _ e in
      record { place = parts.1; within = subst (λ k. k < length xs) parts.1 (ltb-true _ _ parts.0) }

  pub no_place : (xs : List X) → position p xs ≡ None → length xs ≤ position_or_len p xs
  no_place xs e =
      elim (cases_Bool (nat_lt (position_or_len p xs) (length xs))) [
        | inl before ↦ (let found : position p xs ≡ Some (position_or_len p xs) = cond-true _ _ _ before in cc)
        | inr behind ↦ ltb-false _ _ behind
      ]

module _ (p : ℕ → Bool) where
  pub none_passes : (xs : List ℕ) → position p xs ≡ None → All (λ b. p b ≡ false) xs
  none_passes xs e k d h = (let past = no_place p xs e in fails_before_first p xs k d (omega arith))

  -- the parts, where some element passes
  pub parts_from : (xs : List ℕ) (n : ℕ) → position p xs ≡ Some n → slice_split p xs ≡ take n xs ∷ slice_split p (drop (n + 1) xs)
  parts_from xs n e =
      let at = first_place p xs n e in
      slice_split_first p xs 0 (subst (λ k. k < length xs) (sym at.place) at.within)
      ∙ ap (λ k. take k xs ∷ slice_split p (drop (k + 1) xs)) at.place

  -- no element of the first passes
  pub part_whole : (xs : List ℕ) (n : ℕ) → position p xs ≡ Some n → All (λ b. p b ≡ false) (take n xs)
  part_whole xs n e k d h =
      let short = length-take n xs in
      let within : k < n = omega arith in
      ap p (get_or-take n xs k d within) ∙ fails_before_first p xs k d (subst (λ m. k < m) (sym (first_place p xs n e).place) within)

  -- and where none does
  pub one_part : (xs : List ℕ) → position p xs ≡ None → slice_split p xs ≡ xs ∷ []
  one_part xs e = slice_split_none p xs (none_passes xs e)

  pub before_first-from : (xs : List ℕ) (n : ℕ) → position p xs ≡ Some n → before_first p xs ≡ take n xs
  before_first-from xs n e = ap (λ k. take k xs) (first_place p xs n e).place

  pub after_first-from : (xs : List ℕ) (n : ℕ) → position p xs ≡ Some n → after_first p xs ≡ drop (n + 1) xs
  after_first-from xs n e = ap (λ k. drop (k + 1) xs) (first_place p xs n e).place

  pub before_first-none : (xs : List ℕ) → position p xs ≡ None → before_first p xs ≡ xs
  before_first-none xs e = take_all _ xs (no_place p xs e)

  pub after_first-none : (xs : List ℕ) → position p xs ≡ None → after_first p xs ≡ []
  after_first-none xs e = (let past = no_place p xs e in drop_all _ xs (omega arith))
