-- What a lent piece stands for.
use Rattle.std.specs.Prelude.{ℕ}
use Rattle.chat_change.specs.declared.change.Change.{Change}
pub use Rattle.chat_change.specs.ChangeRef.{change_of}
use Rattle.chat_buffers.specs.Store.{Numbered}
use Rattle.chat_state.specs.declared.store.piece.Piece.{Piece}

abbrev pub numbered_of : Piece → Numbered
numbered_of p = record { number = p.number; change = change_of p.change }

-- a piece as its number and its change
abbrev pub entry_of : Piece → ℕ × Change
entry_of p = (p.number, change_of p.change)
