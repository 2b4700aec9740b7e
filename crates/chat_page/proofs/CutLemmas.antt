-- The records between two cuts, as a walk from the one finds them.
use Rattle.std.proofs.Common.{◌≡◌, ◌≤◌, ◌+◌, suc, Bool, true, false, cond, not, List, [], ◌∷◌, ◌++◌, take, reverse, filter, refl, sym, ◌∙◌, ap, subst, arith, append-nil}
use Rattle.std.specs.Prelude.{◌&&◌}
use Rattle.std.proofs.lemmas.Bool.{false≢true}
use Rattle.std.proofs.lemmas.Bool.Decides.{nat_tests}
use Rattle.std.specs.declared.cmp.Ordering.{Ordering}
use Rattle.std.specs.declared.cmp.Ordering.TheVariants.{Less, Equal, Greater}
use Rattle.std.specs.Ordering.{is_lt, is_le, nat_cmp, on, flip_args, ordering_then}
use Rattle.std.specs.Cmp.{IsTotalOrder}
use Rattle.std.specs.List.{AllByRecursion, prefix_len}
use Rattle.std.specs.List.Sorted.{IsStrictlySortedBy}
use Rattle.std.proofs.lemmas.List.{reverse-append}
use Rattle.std.proofs.lemmas.List.Elements.{filter-append}
use Rattle.std.proofs.lemmas.List.Kept.{IsStrictlySortedBy-filter}
use Rattle.std.proofs.lemmas.Map.Keys.{sorted_head, sorted_tail}
use Rattle.chat_change.specs.Record.{Record}
use Rattle.byte_text.specs.Order.{text_cmp}
use Rattle.chat_history.specs.declared.cut.Cut.{Cut}
use Rattle.chat_history.specs.declared.cut.Cut.TheVariants.{Bottom, UnderTime, OverTime, UnderMsg, OverMsg, Top}
use Rattle.chat_history.specs.Cut.{cut_total, of_record, is_after as is_after_cut, after as after_cut, before as before_cut}
use Rattle.chat_history.specs.Visible.{spot_cmp, spot_of}
use Rattle.chat_page.specs.Cuts.{between_cuts}

abbrev rising : Record → Record → Ordering
rising = on spot_of spot_cmp

-- ---- what stands above a cut

no_later : (r s : Record) (o : Ordering) → ordering_then (nat_cmp r.at s.at) o ≡ Less → r.at ≤ s.at
no_later r s o h = grind (arith, nat_tests)

module _ {A : Type 0} {R : A → A → Ordering} (o : IsTotalOrder R) where
  up_to_then : (x y z : A) → is_le (R x y) ≡ true → R y z ≡ Less → R x z ≡ Less
  up_to_then x y z h l =
      elim (R x y) as (λ w. R x y ≡ w → is_le w ≡ true → R x z ≡ Less) [
        | Less ↦ λ e _. o.trans x y z e l
        | Equal ↦ λ e _. o.congr x y z e ∙ l
        | Greater ↦ λ _ g. absurd (false≢true g)
      ] refl h

less_is_le : (o : Ordering) → is_lt o ≡ true → is_le o ≡ true
less_is_le Less e = refl
less_is_le Equal e = refl
less_is_le Greater e = absurd (false≢true e)

above_rises : (c : Cut) (x y : Record) → rising x y ≡ Less → is_after_cut c x ≡ true → is_after_cut c y ≡ true
above_rises Bottom x y l t = refl
above_rises (UnderTime u) x y l t = let m = no_later x y (text_cmp x.id y.id) l in grind (arith, nat_tests)
above_rises (OverTime u) x y l t = let m = no_later x y (text_cmp x.id y.id) l in grind (arith, nat_tests)
above_rises (UnderMsg s) x y l t = ap is_le (up_to_then cut_total s.now (of_record x) (of_record y) t l)
above_rises (OverMsg s) x y l t = ap is_lt (up_to_then cut_total s.now (of_record x) (of_record y) (less_is_le _ t) l)
above_rises Top x y l t = absurd (false≢true t)

below_falls : (c : Cut) (x y : Record) → rising x y ≡ Less → not (is_after_cut c y) ≡ true → not (is_after_cut c x) ≡ true
below_falls c x y l t =
    elim (is_after_cut c x) as (λ b. is_after_cut c x ≡ b → not b ≡ true) [
      | true ↦ λ e. sym (ap not (above_rises c x y l e)) ∙ t
      | false ↦ λ _. refl
    ] refl

-- ---- a test that fails from some item of a sorted list on

module _ {A : Type 0} (R : A → A → Ordering) (p : A → Bool) (falls : (x y : A) → R x y ≡ Less → p y ≡ true → p x ≡ true) where
  none_after : (x : A) (ys : List A) → p x ≡ false → AllByRecursion (λ y. R x y ≡ Less) ys → filter p ys ≡ []
  none_after x [] f h = refl
  none_after x (y ∷ ys) f h =
      elim (p y) as (λ b. p y ≡ b → cond b (y ∷ filter p ys) (filter p ys) ≡ []) [
        | true ↦ λ e. absurd (false≢true (sym f ∙ falls x y h.0 e))
        | false ↦ λ _. none_after x ys f h.1
      ] refl

  pub prefix_passes : (xs : List A) → IsStrictlySortedBy R xs → take (prefix_len p xs) xs ≡ filter p xs
  prefix_passes [] s = refl
  prefix_passes (x ∷ xs) s =
      elim (p x) as (λ b. p x ≡ b → take (cond b (1 + prefix_len p xs) 0) (x ∷ xs) ≡ cond b (x ∷ filter p xs) (filter p xs)) [
        | true ↦ λ _. ap (λ k. take k (x ∷ xs)) (let e : 1 + prefix_len p xs ≡ suc (prefix_len p xs) = omega arith in e) ∙ ap (λ l. x ∷ l) (prefix_passes xs (sorted_tail R x xs s))
        | false ↦ λ e. sym (none_after x xs e (sorted_head R x xs s))
      ] refl

-- ---- the same from the end

module _ {A : Type 0} where
  filter-reverse : (p : A → Bool) (xs : List A) → filter p (reverse xs) ≡ reverse (filter p xs)
  filter-reverse p [] = refl
  filter-reverse p (x ∷ xs) =
      ap (filter p) (reverse-append (x ∷ []) xs) ∙ filter-append p (reverse xs) (x ∷ []) ∙ ap (λ l. l ++ filter p (x ∷ [])) (filter-reverse p xs)
      ∙ elim (p x) as (λ b. reverse (filter p xs) ++ cond b (x ∷ []) [] ≡ reverse (cond b (x ∷ filter p xs) (filter p xs))) [
        | true ↦ sym (reverse-append (x ∷ []) (filter p xs))
        | false ↦ append-nil (reverse (filter p xs))
      ]

  filter-filter : (p q : A → Bool) (xs : List A) → filter p (filter q xs) ≡ filter (λ x. q x && p x) xs
  filter-filter p q [] = refl
  filter-filter p q (x ∷ xs) =
      elim (q x) as (λ b. filter p (cond b (x ∷ filter q xs) (filter q xs)) ≡ cond (b && p x) (x ∷ filter (λ y. q y && p y) xs) (filter (λ y. q y && p y) xs)) [
        | true ↦ ap (λ l. cond (p x) (x ∷ l) l) (filter-filter p q xs)
        | false ↦ filter-filter p q xs
      ]

  pub filter_alike : (p q : A → Bool) → ((x : A) → p x ≡ q x) → (xs : List A) → filter p xs ≡ filter q xs
  filter_alike p q is [] = refl
  filter_alike p q is (x ∷ xs) = ap (λ b. cond b (x ∷ filter p xs) (filter p xs)) (is x) ∙ ap (λ l. cond (q x) (x ∷ l) l) (filter_alike p q is xs)

and_turned : (a b : Bool) → (a && b) ≡ (b && a)
and_turned true true = refl
and_turned true false = refl
and_turned false true = refl
and_turned false false = refl

-- ---- a sorted list turned round

module _ {A : Type 0} where
  all_push : (P : A → Type 0) (xs : List A) (y : A) → AllByRecursion P xs → P y → AllByRecursion P (xs ++ y ∷ [])
  all_push P [] y h p = (p, tt)
  all_push P (x ∷ xs) y h p = (h.0, all_push P xs y h.1 p)

  all_reverse : (P : A → Type 0) (xs : List A) → AllByRecursion P xs → AllByRecursion P (reverse xs)
  all_reverse P [] h = tt
  all_reverse P (x ∷ xs) h = subst (AllByRecursion P) (sym (reverse-append (x ∷ []) xs)) (all_push P (reverse xs) x (all_reverse P xs h.1) h.0)

  sorted_push : (R : A → A → Ordering) (xs : List A) (y : A) → IsStrictlySortedBy R xs → AllByRecursion (λ x. R x y ≡ Less) xs → IsStrictlySortedBy R (xs ++ y ∷ [])
  unfolding IsStrictlySortedBy
  sorted_push R [] y s h = (tt, tt)
  sorted_push R (x ∷ xs) y s h = (all_push (λ z. R x z ≡ Less) xs y s.0 h.0, sorted_push R xs y s.1 h.1)

  sorted_reverse : (R : A → A → Ordering) (xs : List A) → IsStrictlySortedBy R xs → IsStrictlySortedBy (flip_args R) (reverse xs)
  unfolding IsStrictlySortedBy
  sorted_reverse R [] s = tt
  sorted_reverse R (x ∷ xs) s =
      subst (IsStrictlySortedBy (flip_args R)) (sym (reverse-append (x ∷ []) xs))
      (sorted_push (flip_args R) (reverse xs) x (sorted_reverse R xs s.1) (all_reverse (λ y. R x y ≡ Less) xs s.0))

-- ---- walks between two cuts

module _ (low high : Cut) (records : List Record) (sorted : IsStrictlySortedBy rising records) where
  pub up_between : take (prefix_len (λ r. not (is_after_cut high r)) (after_cut low records)) (after_cut low records) ≡ between_cuts low high records
  up_between =
      prefix_passes rising (λ r. not (is_after_cut high r)) (below_falls high) (after_cut low records) (IsStrictlySortedBy-filter rising (is_after_cut low) records sorted)
      ∙ filter-filter (λ r. not (is_after_cut high r)) (is_after_cut low) records

  pub down_between : take (prefix_len (is_after_cut low) (reverse (before_cut high records))) (reverse (before_cut high records)) ≡ reverse (between_cuts low high records)
  down_between =
      prefix_passes (flip_args rising) (is_after_cut low) (λ x y l. above_rises low y x l) (reverse (before_cut high records))
      (sorted_reverse rising (before_cut high records) (IsStrictlySortedBy-filter rising (λ r. not (is_after_cut high r)) records sorted))
      ∙ filter-reverse (is_after_cut low) (before_cut high records)
      ∙ ap reverse (filter-filter (is_after_cut low) (λ r. not (is_after_cut high r)) records ∙ filter_alike _ _ (λ r. and_turned (not (is_after_cut high r)) (is_after_cut low r)) records)
