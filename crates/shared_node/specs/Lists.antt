-- Published lists, and the state that they make.
use Rattle.std.specs.Prelude.{ℕ, List, map}
use Rattle.chat_change.specs.declared.change.Change.{Change}
use Rattle.chat_history.specs.StateValue.{StateValue, state_after}
use Rattle.shared_node.specs.declared.entry.LogEntry.{LogEntry}

-- the changes of a list, without the numbers of who put them
abbrev pub changes_in : List LogEntry → List Change
changes_in list = map (λ (e : LogEntry). e.change) list

-- what a state holds that took the changes of a list
abbrev pub state_of : List LogEntry → StateValue
state_of list = state_after 0 (changes_in list)

abbrev pub entry : ℕ → Change → LogEntry
entry by change = record { by = by; change = change }

-- changes under the number of a pass
abbrev pub under : ℕ → List Change → List LogEntry
under by changes = map (entry by) changes
