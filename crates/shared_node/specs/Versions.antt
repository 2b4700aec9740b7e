-- Versions of the state. Contracts see a version as the list that it is made of, and an operation as
-- the list that it takes a version to.
use Rattle.std.specs.Prelude.{List, [], ◌∷◌, fold, Option, None, Some}
use Rattle.shared_node.specs.declared.entry.LogEntry.{LogEntry}

-- a version's list after an operation
abbrev pub stepped : List LogEntry → List LogEntry → List LogEntry
stepped list after = after

-- a version's list after some operations
abbrev pub latest : List LogEntry → List (List LogEntry) → List LogEntry
latest list operations = fold stepped list operations

-- what an option holds, as a list
abbrev pub held : Option (List LogEntry) → List (List LogEntry)
held None = []
held (Some operation) = operation ∷ []
