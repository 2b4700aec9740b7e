-- The records of a buffer between two cuts.
use Rattle.std.specs.Prelude.{not, ◌&&◌, List, filter}
use Rattle.chat_change.specs.Record.{Record}
use Rattle.chat_history.specs.Cut.{is_after as is_after_cut}
use Rattle.chat_history.specs.declared.cut.Cut.{Cut}

-- those above the one and below the other, in their order
abbrev pub between_cuts : Cut → Cut → List Record → List Record
between_cuts low high records =
    filter (λ r. is_after_cut low r && not (is_after_cut high r)) records
