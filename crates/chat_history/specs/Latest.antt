-- The buffers of an account on a network, each with its latest moment.
use Rattle.std.specs.Prelude.{ℕ, List, map}
use Rattle.std.specs.Option.{unwrap_or}
use Rattle.chat_change.specs.Buffer.{Buffer}
use Rattle.chat_change.specs.Record.{Record}
use Rattle.chat_history.specs.Choice.{greatest}
use Rattle.chat_history.specs.History.{History}
use Rattle.chat_history.specs.Visible.{records_in}
use Rattle.chat_history.specs.Buffers.{buffers_with, is_of_network}

-- the moment of the latest record of a buffer
abbrev pub latest_moment : History → Buffer → ℕ
latest_moment history b = unwrap_or (greatest (map (λ (r : Record). r.at) (records_in history b))) 0

abbrev pub with_moment : History → Buffer → Buffer × ℕ
with_moment history b = (b, latest_moment history b)

-- the buffers of an account on a network that have a record, by target
abbrev pub network_buffers : History → List ℕ → List ℕ → List Buffer
network_buffers history account network =
    buffers_with (λ r. is_of_network account network r.buffer) history

-- each with the moment of its latest record
abbrev pub latest_in : History → List ℕ → List ℕ → List (Buffer × ℕ)
latest_in history account network =
    map (with_moment history) (network_buffers history account network)
