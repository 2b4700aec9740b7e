-- A log: what is published, and what waits.
use Rattle.std.specs.Prelude.{ℕ, ◌+◌, List, ◌++◌, length}
use Rattle.shared_node.specs.declared.entry.LogEntry.{LogEntry}

-- the published list, and the entries that wait to be published
pub record LogValue : Type 0 where
  pub published : List LogEntry
  pub waiting : List LogEntry

abbrev pub log_value : List LogEntry → List LogEntry → LogValue
log_value published waiting = record { published = published; waiting = waiting }

-- all that was put
abbrev pub all_put : LogValue → List LogEntry
all_put log = log.published ++ log.waiting

-- how many changes were put
abbrev pub total : LogValue → ℕ
total log = length log.published + length log.waiting
