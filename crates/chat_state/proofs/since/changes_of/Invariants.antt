use Rattle.std.proofs.Common.{◌≡◌, map, take}
use Rattle.chat_state.specs.Turn.{change_at}
use Rattle.chat_state.proofs.since.changes_of.Given as goal

-- the changes of the pieces so far are taken
abbrev pub invariant-loop-piece : goal.invariant-loop-piece
invariant-loop-piece l = l.changes.items ≡ map change_at (take l.piece-index l.turn)
