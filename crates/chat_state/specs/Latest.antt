-- What a cursor over the buffers of an account on a network has left.
use Rattle.std.specs.Prelude.{ℕ, ◌≡◌, ◌&&◌, not, nat_le, Option, Some, None, List, [], filter, map}
use Rattle.std.specs.Ordering.{is_lt}
use Rattle.std.specs.Option.{IfSome}
use Rattle.std.specs.Borrow.{Bor}
use Rattle.chat_change.specs.Buffer.{Buffer}
use Rattle.chat_change.specs.Order.{buffer_cmp}
use Rattle.chat_history.specs.Buffers.{buffers_with, is_of_network}
use Rattle.chat_history.specs.Choice.{Among}
use Rattle.chat_history.specs.History.{History}
use Rattle.chat_history.specs.Latest.{latest_moment, with_moment}

-- the buffers of an account on a network that have a record at a moment or later, by target
abbrev pub buffers_since : History → List ℕ → List ℕ → ℕ → List Buffer
buffers_since history account network since =
    buffers_with (λ r. nat_le since r.at && is_of_network account network r.buffer) history

-- those of the account and network of a buffer
abbrev pub neighbours : History → ℕ → Buffer → List Buffer
neighbours history since b = buffers_since history b.account b.network since

-- what is left: from the next buffer on
abbrev pub latest_from : History → ℕ → Option (Bor Buffer) → List (Buffer × ℕ)
latest_from history since None = []
latest_from history since (Some b) =
    map (with_moment history)
    (filter (λ d. not (is_lt (buffer_cmp d b.now))) (neighbours history since b.now))

-- the buffer that is next
abbrev pub next_of : Option (Bor Buffer × ℕ) → Option (Bor Buffer)
next_of None = None
next_of (Some next) = Some next.0

-- the walk has reached the next buffer, which has a record at that moment or later, with the moment
-- of its latest
abbrev pub IsAtBuffer : History → ℕ → Option Buffer → Option (Bor Buffer × ℕ) → Type 0
IsAtBuffer history since last next =
    IfSome next (λ (p : Bor Buffer × ℕ). Among p.0.now (neighbours history since p.0.now)
    × (p.1 ≡ latest_moment history p.0.now)
    × (last ≡ Some p.0.now))
