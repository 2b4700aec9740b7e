use Rattle.std.proofs.Common.{◌≡◌, ◌≤◌, ◌++◌, map, length}
use Rattle.chat_state.specs.Piece.{numbered_of}
use Rattle.chat_state.proofs.MergeLemmas.{left}
use Rattle.chat_state.proofs.state.State.newer.Given as goal

-- the pieces so far, and those that are left, are all
abbrev pub invariant-loop-self : goal.invariant-loop-self
invariant-loop-self l = record {
  turn : map numbered_of l.newer.items ++ left l.self-inside.store l.last ≡ left l.self-inside.store l.from;
  few : length l.newer.items ≤ l.limit;
}

abbrev pub decreases-loop-self : goal.decreases-loop-self
decreases-loop-self l = length (left l.self-inside.store l.last)
