-- Moments under the numbers of their pieces.
use Rattle.std.specs.Prelude.{ℕ, ◌≡◌, ◌≤◌, ◌<◌, Option, Some, None, unwrap_or}
use Rattle.std.specs.Option.{option_map}
use Rattle.chat_buffers.specs.declared.held.Stamp.{Stamp}

-- the moment
abbrev pub stamp_moment : Option Stamp → Option ℕ
stamp_moment o = option_map (λ (s : Stamp). s.at) o

-- the number
abbrev pub stamp_number : Option Stamp → Option ℕ
stamp_number o = option_map (λ (s : Stamp). s.number) o

-- the moment of a floor, or 0 where there is none
abbrev pub floor_moment : Option Stamp → ℕ
floor_moment o = unwrap_or (stamp_moment o) 0

-- a floor that isn't above `f` was taken out, whose piece had that number
pub record TakesStamp (old : Option Stamp) (f n : ℕ) (new : Option Stamp) : Type 0 where
  pub at : ℕ
  pub reached : at ≤ f
  pub was : old ≡ Some (record { at = at; number = n })
  pub left : new ≡ None

-- a floor, where there is one, is above `f`
abbrev pub IsAbove : ℕ → Option Stamp → Type 0
IsAbove f o = (s : Stamp) → o ≡ Some s → f < s.at
