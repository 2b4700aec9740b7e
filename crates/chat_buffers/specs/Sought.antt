-- The search for the next buffer of which certain records are held.
use Rattle.std.specs.Prelude.{Bool, true, ◌&&◌, Option, Some, None, List, nat_lt, nat_le}
use Rattle.std.specs.Ordering.{is_lt}
use Rattle.std.specs.List.{filter_map}
use Rattle.chat_change.specs.Buffer.{Buffer}
use Rattle.chat_change.specs.Record.{Record}
use Rattle.chat_change.specs.Order.{buffer_cmp}
use Rattle.chat_change.specs.declared.change.Change.{Change}
use Rattle.chat_history.specs.Buffers.{is_of_network, buffer_where, buffers_with}
use Rattle.chat_history.specs.Choice.{keep}
use Rattle.chat_history.specs.History.{History, changes_of}
use Rattle.chat_buffers.specs.declared.sought.Sought.{Sought}
use Rattle.chat_buffers.specs.declared.sought.Sought.TheVariants.{Outdated, OfNetwork}

-- whether a record is one of those that are sought: older than a moment, or of an account on a
-- network and not older than a moment
abbrev pub is_sought : Sought → Record → Bool
is_sought (Outdated t) r = nat_lt r.at t
is_sought (OfNetwork account network since) r =
    nat_le since r.at && is_of_network account.now network.now r.buffer

-- the buffer of a change that posts such a record
abbrev pub sought_in : Sought → Change → Option Buffer
sought_in s = buffer_where (is_sought s)

-- the buffers of which a history holds such a record, in their order
abbrev pub sought_buffers : Sought → History → List Buffer
sought_buffers s history = buffers_with (is_sought s) history

-- whether a buffer comes after the last one
abbrev pub is_past : Option Buffer → Buffer → Bool
is_past None b = true
is_past (Some last) b = is_lt (buffer_cmp last b)

-- the buffer of a change that is sought, where it comes after the last one
abbrev pub sought_past : Sought → Option Buffer → Change → Option Buffer
sought_past s last c = keep (is_past last) (sought_in s c)

-- the buffers that are sought and come after the last one, in the order of the changes
abbrev pub all_past : Sought → Option Buffer → History → List Buffer
all_past s last history = filter_map (sought_past s last) (changes_of history)
