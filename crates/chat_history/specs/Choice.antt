-- The first of a list by an order, whatever order the list is in.
use Rattle.std.specs.Prelude.{ℕ, ◌≡◌, ◌⊎◌, Bool, false, Option, Some, None, List, [], ◌∷◌, if◌then◌else◌}
use Rattle.std.specs.declared.cmp.Ordering.{Ordering}
use Rattle.std.specs.Ordering.{ord_min, nat_cmp, flip_args, is_gt}

module _ {A : Type 0} (R : A → A → Ordering) where
  -- the earlier of two, where there may be none
  abbrev pub earlier : Option A → Option A → Option A
  earlier None y = y
  earlier (Some x) None = Some x
  earlier (Some x) (Some y) = Some (ord_min R x y)

  -- the one before which no other goes, or none of an empty list
  abbrev pub first_by : List A → Option A
  first_by [] = None
  first_by (x ∷ xs) = earlier (Some x) (first_by xs)

-- the greatest number, or none of an empty list
abbrev pub greatest : List ℕ → Option ℕ
greatest = first_by (flip_args nat_cmp)

-- the later of two moments, where there may be none
abbrev pub later : Option ℕ → Option ℕ → Option ℕ
later = earlier (flip_args nat_cmp)

-- the value where it passes
abbrev pub keep : {A : Type 0} → (A → Bool) → Option A → Option A
keep p None = None
keep p (Some x) = if p x then Some x else None

-- a value is an element of a list, by recursion on the list
abbrev pub Among : {A : Type 0} → A → List A → Type 0
Among x [] = ⊥
Among x (y ∷ ys) = (y ≡ x) ⊎ Among x ys

-- of a list the value is a member that no member goes before, or none where there are no members
abbrev pub IsFirst : {A : Type 0} → (A → A → Ordering) → List A → Option A → Type 0
IsFirst R xs None = xs ≡ []
IsFirst {A} R xs (Some x) = Among x xs × ((y : A) → Among y xs → is_gt (R x y) ≡ false)
