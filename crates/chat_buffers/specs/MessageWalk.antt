-- What a cursor over the kept records of a buffer has left.
use Rattle.std.specs.Prelude.{Option, Some, None, List, []}
use Rattle.std.specs.Map.{values_of}
use Rattle.chat_change.specs.Record.{Record}
use Rattle.chat_history.specs.declared.cut.Spot.{Spot}

-- the records of some entries, or none where there are no entries
abbrev pub records_of : Option (List (Spot × Record)) → List Record
records_of None = []
records_of (Some entries) = values_of entries
