-- Parts of a map's pages.
use Rattle.std.specs.Prelude.{List, [], ◌∷◌, ◌++◌, Option, Some, None, Bool, true, false, not, ℕ, ◌≡◌}
use Rattle.std.specs.List.Sorted.{IsPartitionPoint}
use Rattle.std.specs.VecDeque.Iter.{deque_iter_rest}
use Rattle.std.specs.declared.collections.vec_deque.Iter.{Iter}
use Rattle.std.specs.declared.cmp.Ordering.{Ordering}
use Rattle.std.specs.declared.ops.Bound.{Bound}
use Rattle.std.specs.BTreeMap.Range.{is_from_start}
use Rattle.ordered_maps.specs.Pages.{entries_of}

module _ {X : Type 0} where
  -- what is left of a page, if it was begun
  abbrev pub rest_of : Option (Iter X) → List X
  rest_of None = []
  rest_of (Some rest) = deque_iter_rest rest

  -- whether the last entry of a page passes a test, if it has one
  abbrev pub last_passes : (X → Bool) → List X → Bool
  last_passes test [] = true
  last_passes test (x ∷ []) = test x
  last_passes test (x ∷ y ∷ xs) = last_passes test (y ∷ xs)

module _ {K X : Type 0} where
  -- what is left of a page, of whole pages, and of a last page
  abbrev pub what_is_left : Option (Iter (K × X)) → Iter (List (K × X)) → Option (Iter (K × X))
      → List (K × X)
  what_is_left first pages last =
      rest_of first ++ entries_of (deque_iter_rest pages) ++ rest_of last

  -- whether an entry stands before a start bound
  abbrev pub stands_before : (K → K → Ordering) → Bound K → K × X → Bool
  stands_before R start e = not (is_from_start R start e.0)

module _ {K X : Type 0} (R : K → K → Ordering) (start : Bound K) where
  -- the first n entries stand before a start bound, and no others
  abbrev pub IsCutIn : List (K × X) → ℕ → Type 0
  IsCutIn es n =
      IsPartitionPoint (λ e. stands_before R start e ≡ true) (λ e. stands_before R start e ≡ false) es n

  -- the last entries of the first n pages stand before a start bound, and those of no others
  abbrev pub IsCutBetween : List (List (K × X)) → ℕ → Type 0
  IsCutBetween pages n = IsPartitionPoint (λ page. last_passes (stands_before R start) page ≡ true)
      (λ page. last_passes (stands_before R start) page ≡ false) pages n
