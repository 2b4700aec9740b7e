-- Places among the pages of a packed map, and edits there.
use Rattle.std.specs.Prelude.{◌≡◌, ℕ, ◌<◌, ◌≤◌, Bool, true, false, List, ◌∷◌, ◌++◌, length, take, drop, suc, slice_index_or}
use Rattle.std.specs.List.{AllByRecursion, HoldsAt}
use Rattle.std.specs.declared.cmp.Ordering.{Ordering}
use Rattle.std.specs.declared.cmp.Ordering.TheVariants.{Less, Equal, Greater}
use Rattle.ordered_maps.specs.declared.packed_map.search.Place.{Place}
use Rattle.ordered_maps.specs.Pages.{entries_of, page_at, AreFilled}

module _ {K X : Type 0} (R : K → K → Ordering) (k : K) where
  -- each key is below k
  abbrev pub AreBelow : List (K × X) → Type 0
  AreBelow es = AllByRecursion (λ e. R e.0 k ≡ Less) es

  -- each key is above k
  abbrev pub AreAbove : List (K × X) → Type 0
  AreAbove es = AllByRecursion (λ e. R e.0 k ≡ Greater) es

  -- k can stand in no page but the one at n
  pub record IsPageOf (pages : List (List (K × X))) (n : ℕ) : Type 0 where
    pub within : n < length pages
    pub below : AreBelow (entries_of (take n pages))
    pub above : AreAbove (entries_of (drop (suc n) pages))

module _ {K X : Type 0} (pages : List (List (K × X))) where
  -- the entries before a place, those from it on, and those past the first of these
  abbrev pub before : Place → List (K × X)
  before place = entries_of (take place.page pages) ++ take place.index (page_at pages place.page)

  abbrev pub after : Place → List (K × X)
  after place =
      drop place.index (page_at pages place.page) ++ entries_of (drop (suc place.page) pages)

  abbrev pub past : Place → List (K × X)
  past place =
      drop (suc place.index) (page_at pages place.page) ++ entries_of (drop (suc place.page) pages)

  -- an entry may be put there
  pub record IsPlace (place : Place) : Type 0 where
    pub page : place.page ≤ length pages
    pub index : place.index ≤ length (page_at pages place.page)

  -- an entry stands there
  pub record IsEntryPlace (place : Place) : Type 0 where
    pub page : place.page < length pages
    pub index : place.index < length (page_at pages place.page)

  -- no page is empty, but the one at n may be
  pub record AreFilledBut (n : ℕ) : Type 0 where
    pub below : AreFilled (take n pages)
    pub above : AreFilled (drop (suc n) pages)

  -- v was written over r, the value of the entry at a place
  pub record ChangesEntry (place : Place) (v r : X) (new : List (List (K × X))) : Type 0 where
    pub key : K
    pub there : (d : K × X) → slice_index_or (page_at pages place.page) place.index d ≡ (key, r)
    pub old : entries_of pages ≡ before place ++ (key, r) ∷ past place
    pub now : entries_of new ≡ before place ++ (key, v) ∷ past place

  -- the entries after e was put at a place, and where it wasn't
  abbrev pub entered : Place → K × X → Bool → List (K × X)
  entered place e true = before place ++ e ∷ after place
  entered place e false = entries_of pages

  -- the page at n was split at an index
  abbrev pub split_at : ℕ → ℕ → List (List (K × X))
  split_at n i =
      take n pages ++ take i (page_at pages n) ∷ drop i (page_at pages n) ∷ drop (suc n) pages

module _ {K X : Type 0} (R : K → K → Ordering) (k : K) (pages : List (List (K × X))) where
  -- the entry at a place has the key k
  pub record IsHeldAt (place : Place) : Type 0 where
    pub at : IsEntryPlace pages place
    pub equal : HoldsAt (λ e. R e.0 k ≡ Equal) (page_at pages place.page) place.index

  -- the keys before a place are below k, and the others above
  pub record IsGap (place : Place) : Type 0 where
    pub at : IsPlace pages place
    pub below : AreBelow R k (before pages place)
    pub above : AreAbove R k (after pages place)
