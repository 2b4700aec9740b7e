-- How the items of a stream follow from the place of its first LF.
use Rattle.std.proofs.Common.{◌≡◌, ℕ, ◌+◌, ◌-◌, ◌<◌, ◌≤◌, Bool, true, false, nat_lt, List, [], ◌∷◌, ◌++◌, length, get_or, take, drop, None, Some, position, refl, sym, ap, ◌∙◌, subst, arith, length-append, inl, inr}
use Rattle.std.specs.List.{slice_split, onto_first, position_or_len, All}
use Rattle.std.proofs.lemmas.List.{get_or_append_left, get_or-append_right, get_or-take, drop-drop, length-take, drop-take, drop_all}
use Rattle.std.proofs.lemmas.List.Splits.{slice_split_first, slice_split_none}
use Rattle.std.proofs.lemmas.List.Sums.{position_or_len_is, fails_before_first, passes_at_first}
use Rattle.std.proofs.lemmas.Option.{cond_some}
use Rattle.std.proofs.lemmas.Bool.{ltb-true, ltb-false, lt-ltb, le-ltb, cases_Bool, cond-true, cond-false, cases_lt}
use Rattle.std.proofs.Common.{cond, lit<}
use Rattle.std.specs.Io.BufRead.{strip_last}
use Rattle.irc_line.specs.Stream.{is_lf, item_of, items_of_rest, items_of_parts, items, line, too_long, Held, holding, skipping, bytes_of, held_behind, held_past, held_with, first_item, next_item}

pub record FirstLf (xs : List ℕ) (n : ℕ) : Type 0 where
  pub place : position_or_len is_lf xs ≡ n
  pub within : n < length xs

pub first_lf : (xs : List ℕ) (n : ℕ) → position is_lf xs ≡ Some n → FirstLf xs n
first_lf xs n e =
    let parts = cond_some (nat_lt (position_or_len is_lf xs) (length xs)) _ _ e in
    record { place = parts.1; within = subst (λ k. k < length xs) parts.1 (ltb-true _ _ parts.0) }

pub position_from : (xs : List ℕ) (n : ℕ) → position_or_len is_lf xs ≡ n → n < length xs → position is_lf xs ≡ Some n
position_from xs n e h = cond-true _ _ _ (lt-ltb _ _ (subst (λ k. k < length xs) (sym e) h)) ∙ ap Some e

pub none_from : (xs : List ℕ) → length xs ≤ position_or_len is_lf xs → position is_lf xs ≡ None
none_from xs h = cond-false _ _ _ (le-ltb _ _ h)

pub no_lf : (xs : List ℕ) → position is_lf xs ≡ None → All (λ b. is_lf b ≡ false) xs
no_lf xs e k d h =
    elim (cases_Bool (nat_lt (position_or_len is_lf xs) (length xs))) [
      | inl before ↦ (let found : position is_lf xs ≡ Some (position_or_len is_lf xs) = cond-true _ _ _ before in cc)
      | inr behind_it ↦ (let past = ltb-false _ _ behind_it in fails_before_first is_lf xs k d (omega arith))
    ]

no_lf_from : (xs : List ℕ) → All (λ b. is_lf b ≡ false) xs → position is_lf xs ≡ None
no_lf_from xs all = none_from xs
    (let same = position_or_len_is is_lf xs (length xs) 0 (omega arith) (λ k h. all k 0 h) (λ h. absurd (omega arith)) in omega arith)

pub position-append : (xs ys : List ℕ) (n : ℕ) → position is_lf xs ≡ Some n → position is_lf (xs ++ ys) ≡ Some n
position-append xs ys n e =
    let at = first_lf xs n e in
    let within = at.within in
    let longer = length-append xs ys in
    let fails : (k : ℕ) → k < n → is_lf (get_or (xs ++ ys) k 0) ≡ false =
    λ k h. (let before : k < length xs = omega arith in ap is_lf (get_or_append_left xs ys 0 k before) ∙ fails_before_first is_lf xs k 0 (subst (λ m. k < m) (sym at.place) h)) in
    let passes : n < length (xs ++ ys) → is_lf (get_or (xs ++ ys) n 0) ≡ true =
    λ _. ap is_lf (get_or_append_left xs ys 0 n within) ∙ subst (λ m. is_lf (get_or xs m 0) ≡ true) at.place (passes_at_first is_lf xs 0 (subst (λ m. m < length xs) (sym at.place) within)) in
    position_from (xs ++ ys) n (position_or_len_is is_lf (xs ++ ys) n 0 (omega arith) fails passes) (omega arith)

pub position-take : (xs : List ℕ) (n m : ℕ) → position is_lf xs ≡ Some n → n < m → position is_lf (take m xs) ≡ Some n
position-take xs n m e h =
    let at = first_lf xs n e in
    let within = at.within in
    let shorter = length-take m xs in
    let fails : (k : ℕ) → k < n → is_lf (get_or (take m xs) k 0) ≡ false =
    λ k below. (let before : k < m = omega arith in ap is_lf (get_or-take m xs k 0 before) ∙ fails_before_first is_lf xs k 0 (subst (λ i. k < i) (sym at.place) below)) in
    let passes : n < length (take m xs) → is_lf (get_or (take m xs) n 0) ≡ true =
    λ _. ap is_lf (get_or-take m xs n 0 h) ∙ subst (λ i. is_lf (get_or xs i 0) ≡ true) at.place (passes_at_first is_lf xs 0 (subst (λ i. i < length xs) (sym at.place) within)) in
    position_from (take m xs) n (position_or_len_is is_lf (take m xs) n 0 (omega arith) fails passes) (omega arith)

-- where the first part has no LF
pub position-append_some : (xs ys : List ℕ) (n : ℕ) → position is_lf xs ≡ None → position is_lf ys ≡ Some n → position is_lf (xs ++ ys) ≡ Some (length xs + n)
position-append_some xs ys n none some =
    let all = no_lf xs none in
    let at = first_lf ys n some in
    let within = at.within in
    let longer = length-append xs ys in
    let fails : (k : ℕ) → k < length xs + n → is_lf (get_or (xs ++ ys) k 0) ≡ false =
    λ k h. elim (cases_lt k (length xs)) [
      | inl before ↦ ap is_lf (get_or_append_left xs ys 0 k before) ∙ all k 0 before
      | inr behind_it ↦ (let below : k - length xs < position_or_len is_lf ys = subst (λ i. k - length xs < i) (sym at.place) (omega arith) in
          ap is_lf (get_or-append_right xs ys (length xs) k 0 refl behind_it) ∙ fails_before_first is_lf ys (k - length xs) 0 below)
    ] in
    let there : get_or (xs ++ ys) (length xs + n) 0 ≡ get_or ys n 0 =
    get_or-append_right xs ys (length xs) (length xs + n) 0 refl (omega arith) ∙ ap (λ i. get_or ys i 0) (omega arith) in
    let passes : length xs + n < length (xs ++ ys) → is_lf (get_or (xs ++ ys) (length xs + n) 0) ≡ true =
    λ _. ap is_lf there ∙ subst (λ i. is_lf (get_or ys i 0) ≡ true) at.place (passes_at_first is_lf ys 0 (subst (λ i. i < length ys) (sym at.place) within)) in
    position_from (xs ++ ys) (length xs + n) (position_or_len_is is_lf (xs ++ ys) (length xs + n) 0 (omega arith) fails passes) (omega arith)

pub position-append_none : (xs ys : List ℕ) → position is_lf xs ≡ None → position is_lf ys ≡ None → position is_lf (xs ++ ys) ≡ None
position-append_none xs ys first second =
    let longer = length-append xs ys in
    let one = no_lf xs first in
    let two = no_lf ys second in
    no_lf_from (xs ++ ys) (λ k d h. elim (cases_lt k (length xs)) [
      | inl before ↦ ap is_lf (get_or_append_left xs ys d k before) ∙ one k d before
      | inr behind_it ↦ ap is_lf (get_or-append_right xs ys (length xs) k d refl behind_it) ∙ two (k - length xs) d (omega arith)
    ])

-- a split has a part
some_part : (xs : List ℕ) → (part : List ℕ) × (parts : List (List ℕ)) × (slice_split is_lf xs ≡ part ∷ parts)
some_part [] = ([], [], refl)
some_part (x ∷ xs) =
    elim (is_lf x) as (λ b. (part : List ℕ) × (parts : List (List ℕ)) × (cond b ([] ∷ slice_split is_lf xs) (onto_first x (slice_split is_lf xs)) ≡ part ∷ parts)) [
      | true ↦ ([], slice_split is_lf xs, refl)
      | false ↦ (let rest = some_part xs in (x ∷ rest.0, rest.1, ap (onto_first x) rest.2))
    ]

pub items_line : (xs : List ℕ) (n : ℕ) → position is_lf xs ≡ Some n → items xs ≡ item_of (take n xs) ∷ items (drop (n + 1) xs)
unfolding items
items_line xs n e =
    let at = first_lf xs n e in
    let split : slice_split is_lf xs ≡ take n xs ∷ slice_split is_lf (drop (n + 1) xs) =
    slice_split_first is_lf xs 0 (subst (λ i. i < length xs) (sym at.place) at.within) ∙ ap (λ i. take i xs ∷ slice_split is_lf (drop (i + 1) xs)) at.place in
    let rest = some_part (drop (n + 1) xs) in
    ap items_of_parts split ∙ ap (λ parts. items_of_parts (take n xs ∷ parts)) rest.2 ∙ ap (λ parts. item_of (take n xs) ∷ items_of_parts parts) (sym rest.2)

pub items_rest : (xs : List ℕ) → position is_lf xs ≡ None → items xs ≡ items_of_rest xs
unfolding items
items_rest xs e = ap items_of_parts (slice_split_none is_lf xs (no_lf xs e))

pub line_first : (xs : List ℕ) (n : ℕ) → position is_lf xs ≡ Some n → length xs ≤ 8703 → first_item (items xs) ≡ Some (line (strip_last 13 (take n xs)))
line_first xs n e h =
    let within = (first_lf xs n e).within in
    let size = length-take n xs in
    ap first_item (items_line xs n e) ∙ ap Some (cond-true _ _ _ (lt-ltb (length (take n xs)) 8703 (omega arith)))

pub long_first : (xs : List ℕ) → position is_lf xs ≡ None → 8703 ≤ length xs → first_item (items xs) ≡ Some too_long
long_first xs e h = ap first_item (items_rest xs e ∙ cond-false _ _ _ (le-ltb (length xs) 8703 h))

pub none_first : (xs : List ℕ) → position is_lf xs ≡ None → length xs < 8703 → first_item (items xs) ≡ None
none_first xs e h = ap first_item (items_rest xs e ∙ cond-true _ _ _ (lt-ltb (length xs) 8703 h))

module _ (flag : Bool) (start : ℕ) (bytes : List ℕ) (held : Held) (view_is : cond flag skipping (holding (drop start bytes)) ≡ held) where
  opened : flag ≡ false → held ≡ holding (drop start bytes)
  opened closed = sym view_is ∙ cond-false flag skipping (holding (drop start bytes)) closed

  pub next_of_line : flag ≡ false → (at : ℕ) → position is_lf (drop start bytes) ≡ Some at → length (drop start bytes) ≤ 8703 →
      (cond flag skipping (holding (drop (start + at + 1) bytes)) ≡ held_past (bytes_of held)) × (Some (line (strip_last 13 (take at (drop start bytes)))) ≡ next_item held)
  next_of_line closed at place fits =
      let same = opened closed in
      let rest : drop (start + at + 1) bytes ≡ drop (at + 1) (drop start bytes) = ap (λ n. drop n bytes) (omega arith) ∙ sym (drop-drop (at + 1) start bytes) in (
        cond-false flag skipping _ closed ∙ ap holding rest ∙ ap (λ o. held_behind o (drop start bytes)) (sym place) ∙ ap (λ h. held_past (bytes_of h)) (sym same),
        sym (ap next_item same ∙ line_first (drop start bytes) at place fits),
      )

  pub next_of_long : flag ≡ false → position is_lf (drop start bytes) ≡ None → 8703 ≤ length (drop start bytes) → (skipping ≡ held_past (bytes_of held)) × (Some too_long ≡ next_item held)
  next_of_long closed place long =
      let same = opened closed in
      (ap (λ o. held_behind o (drop start bytes)) (sym place) ∙ ap (λ h. held_past (bytes_of h)) (sym same), sym (ap next_item same ∙ long_first (drop start bytes) place long))

  pub next_of_rest : flag ≡ false → position is_lf (drop start bytes) ≡ None → length (drop start bytes) < 8703 → None ≡ next_item held
  next_of_rest closed place short = sym (ap next_item (opened closed) ∙ none_first (drop start bytes) place short)

  pub next_of_skipping : flag ≡ true → None ≡ next_item held
  next_of_skipping is = sym (ap next_item (sym view_is ∙ cond-true flag skipping (holding (drop start bytes)) is) ∙ none_first [] refl (lit< tt))

  pub taken_on : flag ≡ false → (skip n : ℕ) (piece : List ℕ) → skip ≡ 0 → holding (drop start bytes ++ take n (drop skip piece)) ≡ held_with held (take (skip + n) piece)
  taken_on closed skip n piece e =
      let P : ℕ → Type 0 = λ k. holding (drop start bytes ++ take n (drop k piece)) ≡ held_with held (take (k + n) piece) in
      let more : take n piece ≡ take (0 + n) piece = ap (λ k. take k piece) (omega arith) in
      subst P (sym e) (ap (λ l. holding (drop start bytes ++ l)) more ∙ ap (λ h. held_with h (take (0 + n) piece)) (sym (opened closed)))

  pub taken_behind : flag ≡ true → (at skip n : ℕ) (piece : List ℕ) → position is_lf piece ≡ Some at → skip ≡ at + 1 → start ≡ length bytes
      → holding (drop start bytes ++ take n (drop skip piece)) ≡ held_with held (take (skip + n) piece)
  taken_behind is at skip n piece place e empty =
      let P : ℕ → Type 0 = λ k. holding (drop start bytes ++ take n (drop k piece)) ≡ held_with held (take (k + n) piece) in
      let same : held ≡ skipping = sym view_is ∙ cond-true flag skipping (holding (drop start bytes)) is in
      let there = position-take piece at (at + 1 + n) place (omega arith) in
      let gone : drop start bytes ≡ [] = drop_all start bytes (omega arith) in
      subst P (sym e) (ap (λ l. holding (l ++ take n (drop (at + 1) piece))) gone ∙ ap holding (sym (drop-take (at + 1) n piece))
      ∙ ap (λ o. held_behind o (take (at + 1 + n) piece)) (sym there) ∙ ap (λ h. held_with h (take (at + 1 + n) piece)) (sym same))
