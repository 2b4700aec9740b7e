-- The least and the greatest entry of an ordered map, or of a part of it.
use Rattle.std.specs.Prelude.{◌≡◌, Option, Some, None, List, false}
use Rattle.std.specs.Option.{IsSome}
use Rattle.std.specs.declared.cmp.Ordering.{Ordering}
use Rattle.std.specs.declared.cmp.Ordering.TheVariants.{Less}
use Rattle.std.specs.Ordering.{is_gt, is_lt}
use Rattle.ordered_maps.specs.MapView.{get}

module _ {K X : Type 0} (R : K → K → Ordering) where
  -- an entry that no key is below
  pub record IsLeast (e : K × X) (es : List (K × X)) : Type 0 where
    pub value : get R es e.0 ≡ Some e.1
    pub below : (q : K) → IsSome (get R es q) → is_gt (R e.0 q) ≡ false

  -- an entry that no key is above
  pub record IsGreatest (e : K × X) (es : List (K × X)) : Type 0 where
    pub value : get R es e.0 ≡ Some e.1
    pub above : (q : K) → IsSome (get R es q) → is_lt (R e.0 q) ≡ false

  -- the entry with the greatest key below k, if there is one
  abbrev pub IsLastBefore : K → List (K × X) → Option (K × X) → Type 0
  IsLastBefore k es None = (q : K) → R q k ≡ Less → get R es q ≡ None
  IsLastBefore k es (Some e) = (R e.0 k ≡ Less) × (get R es e.0 ≡ Some e.1)
      × ((q : K) → R q k ≡ Less → IsSome (get R es q) → is_lt (R e.0 q) ≡ false)
