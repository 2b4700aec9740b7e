-- What the index holds of a piece.
use Rattle.std.specs.Prelude.{Option, Some, None}
use Rattle.chat_change.specs.Extent.{OfAccount, OfBuffer}
use Rattle.chat_change.specs.Record.{Record}
use Rattle.chat_change.specs.Key.{Key, FloorOf, MarkerOf, MessageOf, key_of}
use Rattle.chat_change.specs.declared.change.Change.{Change}
use Rattle.chat_history.specs.History.{posted_record}
use Rattle.chat_state.specs.declared.store.piece_name.Subject.{Subject}
use Rattle.chat_state.specs.declared.store.piece_name.Subject.TheVariants.{Posted, Redacted, Marked, Floored, AccountFloored}

-- the key of a piece, and the record, where it is a post
pub record PieceName : Type 0 where
  pub key : Key
  pub post : Option Record

-- what a piece with that change is known by
abbrev pub name_of : Change → PieceName
name_of c = record { key = key_of c; post = posted_record c }

-- what it says, all of it
abbrev pub name_in : Subject → PieceName
name_in (Posted r) = record { key = MessageOf r.buffer r.id; post = Some r }
name_in (Redacted name) =
    record { key = MessageOf name.value.buffer name.value.id; post = None }
name_in (Marked b) = record { key = MarkerOf b; post = None }
name_in (Floored b) = record { key = FloorOf (OfBuffer b); post = None }
name_in (AccountFloored a) = record { key = FloorOf (OfAccount a.value); post = None }
