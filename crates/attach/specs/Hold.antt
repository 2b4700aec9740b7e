-- What a contract sees of a hold on a place, and the rule of the places' words.
use Rattle.std.specs.Prelude.{◌≡◌, ◌⊎◌, ℕ, ◌<◌, length, Option, IfSome}
use Rattle.atomic_table.specs.Seated.{TableId}
use Rattle.atomic_table.specs.declared.shared.Seat.{Seat}
use Rattle.attach.specs.Steps.{Holds, PlaceState, word_at, free_word, taken_word, seat_with}

-- Between any two steps no two seats hold one place, and a place is taken just where a seat
-- holds it
pub record IsOneHolder (count : ℕ) (s : PlaceState) : Type 0 where
  pub width : length s.words ≡ count
  pub taken_if_held : (seat place : ℕ) → Holds s.views seat place
      → (place < count) × (word_at s place ≡ taken_word)
  pub alone : (seat other place : ℕ) → Holds s.views seat place → Holds s.views other place
      → seat ≡ other
  pub free_or_held : (place : ℕ) → place < count
      → (word_at s place ≡ free_word) ⊎ ((seat : ℕ) × Holds s.views seat place)

-- the table that a seat is at, and the place that it holds
pub record HoldState : Type 0 where
  pub table : TableId
  pub place : Option ℕ

-- a seat whose view is the place that it holds, or none
abbrev pub PlaceSeat : Type 0
PlaceSeat = Seat (Unit {0}) (Option ℕ)

-- the seat is at this table of so many words, and it holds this place and no slot
pub record IsSeated (table : TableId) (count : ℕ) (seat : PlaceSeat)
    (place : Option ℕ) : Type 0 where
  pub at : seat.table_id ≡ table
  pub wide : table.words ≡ count
  pub me : seat.me ≡ seat_with place
  pub within : IfSome place (λ p. p < count)
