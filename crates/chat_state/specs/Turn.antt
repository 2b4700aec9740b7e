-- Pieces that are lent by rising number.
use Rattle.std.specs.Prelude.{ℕ, List, map}
use Rattle.std.specs.Option.{unwrap_or}
use Rattle.chat_change.specs.declared.change.Change.{Change}
use Rattle.chat_history.specs.Choice.{greatest}
use Rattle.chat_state.specs.Piece.{change_of}
use Rattle.chat_state.specs.declared.store.piece.Piece.{Piece}

abbrev pub number_at : Piece → ℕ
number_at p = p.number

abbrev pub change_at : Piece → Change
change_at p = change_of p.change

-- the greatest of their numbers, or another number where there are none
abbrev pub greatest_number : List Piece → ℕ → ℕ
greatest_number turn none = unwrap_or (greatest (map number_at turn)) none
