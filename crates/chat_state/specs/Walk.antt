-- The pieces of a store by rising number.
use Rattle.std.specs.Prelude.{ℕ, ◌≡◌, Some}
use Rattle.std.specs.FinMap as finite
use Rattle.chat_change.specs.Key.{Key}
use Rattle.chat_buffers.specs.Store.{Store, Numbered, number_at}

-- a piece stands under the key
abbrev pub IsHeld : Store → Key → Type 0
IsHeld s k = (n : ℕ) × (number_at s k ≡ Some n)

-- a piece of the store with that number
abbrev pub IsPieceOf : Store → ℕ → Numbered → Type 0
IsPieceOf s n p = (p.number ≡ n) × (k : Key) × (finite.get s k ≡ Some p)
