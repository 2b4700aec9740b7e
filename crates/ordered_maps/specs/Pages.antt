-- The pages of a packed map.
use Rattle.std.specs.Prelude.{◌≡◌, ◌≢◌, ℕ, Bool, false, List, [], ◌∷◌, slice_index_or, slice_set}
use Rattle.std.specs.List.{AllByRecursion, flat_map}
use Rattle.std.specs.Ordering.{is_gt}
use Rattle.std.specs.declared.cmp.Ordering.{Ordering}
use Rattle.ordered_maps.specs.MapView.{AreOrdered}

module _ {K X : Type 0} where
  -- the entries of pages, one page after another
  abbrev pub entries_of : List (List (K × X)) → List (K × X)
  entries_of pages = flat_map (λ page. page) pages

  -- no page is empty
  abbrev pub AreFilled : List (List (K × X)) → Type 0
  AreFilled pages = AllByRecursion (λ page. page ≢ []) pages

  -- the page at n, and an empty one past the last
  abbrev pub page_at : List (List (K × X)) → ℕ → List (K × X)
  page_at pages n = slice_index_or pages n []

  -- the prefix of the first key, and 0 where there is none
  abbrev pub first_prefix : (K → ℕ) → List (K × X) → ℕ
  first_prefix prefix [] = 0
  first_prefix prefix (e ∷ es) = prefix e.0

  -- v was written over r, the value at i
  pub record WritesValue (old : List (K × X)) (i : ℕ) (v r : X) (new : List (K × X)) : Type 0 where
    pub key : K
    pub there : (d : K × X) → slice_index_or old i d ≡ (key, r)
    pub now : new ≡ slice_set old i (key, v)

module _ {K X : Type 0} (R : K → K → Ordering) where
  -- no page is empty, and the keys ascend from page to page
  pub record AreInPages (pages : List (List (K × X))) : Type 0 where
    pub filled : AreFilled pages
    pub ordered : AreOrdered R (entries_of pages)

  -- whether the first key is above k
  abbrev pub starts_above : K → List (K × X) → Bool
  starts_above k [] = false
  starts_above k (e ∷ es) = is_gt (R e.0 k)
