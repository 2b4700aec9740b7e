-- Lists of changes, one after another.
use Rattle.std.specs.Prelude.{List, Vec}
use Rattle.std.specs.declared.alloc.Global.{Global}
use Rattle.std.specs.List.{flat_map}
use Rattle.chat_change.specs.declared.change.Change.{Change}

-- the changes of all deltas, in their order
abbrev pub all_changes : List (Vec Change Global) → List Change
all_changes deltas = flat_map (λ (delta : Vec Change Global). delta.items) deltas
