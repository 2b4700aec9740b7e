-- What holds of each element of a list, and of its parts; entries that are ordered, and their parts.
use Rattle.std.proofs.Common.{◌≡◌, ℕ, zero, suc, List, [], ◌∷◌, ◌++◌, length, take, drop, sym, subst, arith, take-append-drop}
use Rattle.std.specs.declared.cmp.Ordering.{Ordering}
use Rattle.std.specs.declared.cmp.Ordering.TheVariants.{Less}
use Rattle.std.specs.List.{AllByRecursion, AllWithin}
use Rattle.std.specs.List.Sorted.{IsStrictlySortedBy}
use Rattle.std.specs.Map.{keys_of}
use Rattle.ordered_maps.specs.MapView.{AreOrdered}

module _ {X : Type 0} (P : X → Type 0) where
  pub all_append : (xs ys : List X) → AllByRecursion P xs → AllByRecursion P ys → AllByRecursion P (xs ++ ys)
  all_append [] ys a b = b
  all_append (x ∷ xs) ys a b = (a.0, all_append xs ys a.1 b)

  pub all_left : (xs ys : List X) → AllByRecursion P (xs ++ ys) → AllByRecursion P xs
  all_left [] ys a = tt
  all_left (x ∷ xs) ys a = (a.0, all_left xs ys a.1)

  pub all_right : (xs ys : List X) → AllByRecursion P (xs ++ ys) → AllByRecursion P ys
  all_right [] ys a = a
  all_right (x ∷ xs) ys a = all_right xs ys a.1

  pub all_take : (n : ℕ) (xs : List X) → AllByRecursion P xs → AllByRecursion P (take n xs)
  all_take n xs a = all_left (take n xs) (drop n xs) (subst (AllByRecursion P) (sym (take-append-drop n xs)) a)

  pub all_drop : (n : ℕ) (xs : List X) → AllByRecursion P xs → AllByRecursion P (drop n xs)
  all_drop n xs a = all_right (take n xs) (drop n xs) (subst (AllByRecursion P) (sym (take-append-drop n xs)) a)

  pub all_first : (xs : List X) (i : ℕ) → AllWithin P xs 0 i → AllByRecursion P (take i xs)
  all_first [] zero h = tt
  all_first [] (suc i) h = tt
  all_first (x ∷ xs) zero h = tt
  all_first (x ∷ xs) (suc i) h = (h 0 x (omega arith) (omega arith), all_first xs i (λ k d a b. h (suc k) d (omega arith) (omega arith)))

  pub all_rest : (xs : List X) (i : ℕ) → AllWithin P xs i (length xs) → AllByRecursion P (drop i xs)
  all_rest [] zero h = tt
  all_rest [] (suc i) h = tt
  all_rest (x ∷ xs) zero h = (h 0 x (omega arith) (omega arith), all_rest xs zero (λ k d a b. h (suc k) d (omega arith) (omega arith)))
  all_rest (x ∷ xs) (suc i) h = all_rest xs i (λ k d a b. h (suc k) d (omega arith) (omega arith))

pub all_so : {X : Type 0} {P Q : X → Type 0} → ((x : X) → P x → Q x) → (xs : List X) → AllByRecursion P xs → AllByRecursion Q xs
all_so f [] h = tt
all_so f (x ∷ xs) h = (f x h.0, all_so f xs h.1)

-- ---- the keys of a part
pub all_of_keys : {K X : Type 0} (P : K → Type 0) (es : List (K × X)) → AllByRecursion P (keys_of es) → AllByRecursion (λ e. P e.0) es
all_of_keys P [] h = tt
all_of_keys P (e ∷ es) h = (h.0, all_of_keys P es h.1)

keys_left : {K X : Type 0} (P : K → Type 0) (xs ys : List (K × X)) → AllByRecursion P (keys_of (xs ++ ys)) → AllByRecursion P (keys_of xs)
keys_left P [] ys h = tt
keys_left P (x ∷ xs) ys h = (h.0, keys_left P xs ys h.1)

module _ {K X : Type 0} (R : K → K → Ordering) where
  pub ordered_right : (xs ys : List (K × X)) → AreOrdered R (xs ++ ys) → AreOrdered R ys
  unfolding IsStrictlySortedBy
  ordered_right [] ys h = h
  ordered_right (x ∷ xs) ys h = ordered_right xs ys h.1

  pub ordered_left : (xs ys : List (K × X)) → AreOrdered R (xs ++ ys) → AreOrdered R xs
  unfolding IsStrictlySortedBy
  ordered_left [] ys h = tt
  ordered_left (x ∷ xs) ys h = (keys_left (λ y. R x.0 y ≡ Less) xs ys h.0, ordered_left xs ys h.1)
