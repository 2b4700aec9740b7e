-- What a contract sees of a hall.
use Rattle.std.specs.Prelude.{◌≡◌, ℕ, IsSomeAnd}
use Rattle.std.specs.Ordering.{nat_cmp}
use Rattle.std.specs.FinMap.{FinMap, from_entries, get, insert}
use Rattle.slab.specs.Slab.{Slab, entries}

module _ {X : Type 0} where
  -- each key with what is attached there
  abbrev pub value_of : Slab X → FinMap nat_cmp X
  value_of s = from_entries (entries s)

  -- the attachment at the key becomes another one, so related to it, and no other key changes
  abbrev pub Changes : FinMap nat_cmp X → FinMap nat_cmp X → ℕ → (X → X → Type 0) → Type 0
  Changes old new key Becomes =
      IsSomeAnd (get old key) (λ a. (b : X) × (new ≡ insert old key b) × Becomes a b)
