-- The buffers of which a history holds certain records, in their order.
use Rattle.std.specs.Prelude.{ℕ, Bool, ◌&&◌, Option, Some, None, List, map, if◌then◌else◌}
use Rattle.std.specs.Ordering.{is_eq}
use Rattle.std.specs.List.{filter_map}
use Rattle.std.specs.FinMap.{from_entries, values}
use Rattle.chat_change.specs.Buffer.{Buffer}
use Rattle.chat_change.specs.Record.{Record}
use Rattle.byte_text.specs.Order.{text_cmp}
use Rattle.chat_change.specs.Order.{buffer_cmp}
use Rattle.chat_change.specs.declared.change.Change.{Change}
use Rattle.chat_change.specs.declared.change.Change.TheVariants.{Post}
use Rattle.chat_history.specs.History.{History, changes_of}

-- the buffer is one of that account on that network
abbrev pub is_of_network : List ℕ → List ℕ → Buffer → Bool
is_of_network account network b =
    is_eq (text_cmp b.account account) && is_eq (text_cmp b.network network)

-- the buffer of a post whose record passes a test
abbrev pub buffer_where : (Record → Bool) → Change → Option Buffer
buffer_where p (Post r) = if p r then Some r.buffer else None
buffer_where p c = None

-- each of the buffers once, in their order
abbrev pub in_buffer_order : List Buffer → List Buffer
in_buffer_order buffers =
    values (from_entries {R = buffer_cmp} (map (λ (b : Buffer). (b, b)) buffers))

-- the buffers of which a history holds a record that passes a test, in their order
abbrev pub buffers_with : (Record → Bool) → History → List Buffer
buffers_with p history = in_buffer_order (filter_map (buffer_where p) (changes_of history))
