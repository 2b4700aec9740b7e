-- What stands before and after one item of a sorted list.
use Rattle.std.proofs.Common.{◌≡◌, List, [], ◌∷◌, ◌++◌, false, filter, refl, ap, ◌∙◌}
use Rattle.std.specs.declared.cmp.Ordering.{Ordering}
use Rattle.std.specs.declared.cmp.Ordering.TheVariants.{Less}
use Rattle.std.specs.Ordering.{is_lt, ordering_reverse}
use Rattle.std.specs.Cmp.{IsTotalOrder}
use Rattle.std.specs.List.{AllByRecursion}
use Rattle.std.specs.List.Sorted.{IsStrictlySortedBy}
use Rattle.std.proofs.lemmas.Bool.{cond-true, cond-false}
use Rattle.std.proofs.lemmas.Cmp.{tied_itself}
use Rattle.std.proofs.lemmas.Map.Keys.{sorted_head, sorted_tail}

-- of a list of which P holds
middle : {A : Type 0} (P : A → Type 0) (front : List A) (x : A) (back : List A) → AllByRecursion P (front ++ x ∷ back) → P x
middle P [] x back h = h.0
middle P (y ∷ front) x back h = middle P front x back h.1

module _ {A : Type 0} {R : A → A → Ordering} (o : IsTotalOrder R) where
  itself : (x : A) → is_lt (R x x) ≡ false
  itself x = ap is_lt (tied_itself o x)

  turned : (x y : A) → R x y ≡ Less → is_lt (R y x) ≡ false
  turned x y e = ap is_lt (o.antisymm y x ∙ ap ordering_reverse e)

  all_after : (x : A) (ys : List A) → AllByRecursion (λ y. R x y ≡ Less) ys → filter (λ y. is_lt (R x y)) ys ≡ ys
  all_after x [] h = refl
  all_after x (y ∷ ys) h = cond-true _ _ _ (ap is_lt h.0) ∙ ap (λ l. y ∷ l) (all_after x ys h.1)

  none_before : (x : A) (ys : List A) → AllByRecursion (λ y. R x y ≡ Less) ys → filter (λ y. is_lt (R y x)) ys ≡ []
  none_before x [] h = refl
  none_before x (y ∷ ys) h = cond-false _ _ _ (turned x y h.0) ∙ none_before x ys h.1

  pub after_it : (front : List A) (x : A) (back : List A) → IsStrictlySortedBy R (front ++ x ∷ back) → filter (λ y. is_lt (R x y)) (front ++ x ∷ back) ≡ back
  after_it [] x back s = cond-false _ _ _ (itself x) ∙ all_after x back (sorted_head R x back s)
  after_it (y ∷ front) x back s =
      cond-false _ _ _ (turned y x (middle (λ z. R y z ≡ Less) front x back (sorted_head R y (front ++ x ∷ back) s))) ∙ after_it front x back (sorted_tail R y (front ++ x ∷ back) s)

  pub before_it : (front : List A) (x : A) (back : List A) → IsStrictlySortedBy R (front ++ x ∷ back) → filter (λ y. is_lt (R y x)) (front ++ x ∷ back) ≡ front
  before_it [] x back s = cond-false _ _ _ (itself x) ∙ none_before x back (sorted_head R x back s)
  before_it (y ∷ front) x back s =
      cond-true _ _ _ (ap is_lt (middle (λ z. R y z ≡ Less) front x back (sorted_head R y (front ++ x ∷ back) s)))
      ∙ ap (λ l. y ∷ l) (before_it front x back (sorted_tail R y (front ++ x ∷ back) s))
