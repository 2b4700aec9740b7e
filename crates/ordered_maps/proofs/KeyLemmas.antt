-- What the prefixes of two keys say of them.
use Rattle.std.proofs.Common.{◌≡◌, ℕ, ◌<◌, ◌∙◌, ap}
use Rattle.std.specs.declared.cmp.Ordering.{Ordering}
use Rattle.std.specs.declared.cmp.Ordering.TheVariants.{Less, Greater}
use Rattle.std.specs.Ordering.{ordering_reverse}
use Rattle.std.specs.Cmp.{IsTotalOrder}

module _ {K : Type 0} {R : K → K → Ordering} (o : IsTotalOrder R) (prefix : K → ℕ)
    (ascends : (k l : K) → prefix k < prefix l → R k l ≡ Less) where
  -- of two keys the one with the greater prefix is the greater
  pub above : (k l : K) → prefix l < prefix k → R k l ≡ Greater
  above k l h = o.antisymm k l ∙ ap ordering_reverse (ascends l k h)
