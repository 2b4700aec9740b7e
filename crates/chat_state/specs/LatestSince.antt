-- The buffers of an account on a network whose latest record isn't older than a moment.
use Rattle.std.specs.Prelude.{ℕ, Bool, nat_le, List, filter}
use Rattle.chat_change.specs.Buffer.{Buffer}
use Rattle.chat_history.specs.History.{History}
use Rattle.chat_history.specs.Latest.{latest_in}

-- whether the moment of a buffer's latest record is that moment or later
abbrev pub is_since : ℕ → Buffer × ℕ → Bool
is_since since b = nat_le since b.1

-- those buffers, each with the moment of its latest record, by target
abbrev pub latest_since_in : History → List ℕ → List ℕ → ℕ → List (Buffer × ℕ)
latest_since_in history account network since =
    filter (is_since since) (latest_in history account network)
