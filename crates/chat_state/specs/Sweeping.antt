-- How what lies below a floor goes, piece by piece.
use Rattle.std.specs.Prelude.{ℕ, ◌≡◌, Bool, true, not, if◌then◌else◌, Option, Some, None}
use Rattle.std.specs.FinMap as finite
use Rattle.chat_change.specs.Buffer.{Buffer}
use Rattle.chat_change.specs.Extent.{OfAccount, OfBuffer}
use Rattle.chat_change.specs.Record.{Record}
use Rattle.chat_change.specs.declared.change.Change.TheVariants.{Post}
use Rattle.chat_change.specs.Key.{Key, FloorOf, same_key}
use Rattle.chat_buffers.specs.Store.{Store}
use Rattle.chat_buffers.specs.Entering.{TakesOne, is_below, unless_below}
use Rattle.chat_state.specs.PieceName.{PieceName}

-- one record below the floor was taken out
abbrev pub TakesSome : Store → Buffer → ℕ → Store → Type 0
TakesSome old b f new = (n : ℕ) × TakesOne old b f n new

-- what a floor of a buffer leaves of the index: all but the records of the buffer that stand below it
abbrev pub is_post_left : Buffer → ℕ → Option Record → Bool
is_post_left b f None = true
is_post_left b f (Some r) = not (is_below (OfBuffer b) f (Post r))

abbrev pub is_left : Buffer → ℕ → PieceName → Bool
is_left b f name = is_post_left b f name.post

-- of all pieces only the own floor of a buffer was taken out, where a floor of its account takes it
-- away
abbrev pub IsFloorSwept : Buffer → ℕ → Store → Store → Type 0
IsFloorSwept b f old new =
    (k : Key) → finite.get new k ≡
    (if same_key k (FloorOf (OfBuffer b))
    then unless_below (OfAccount b.account) f (finite.get old k) else finite.get old k)
