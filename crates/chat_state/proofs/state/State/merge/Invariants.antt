use Rattle.std.proofs.Common.{◌≡◌, ◌≤◌, ◌++◌, map, take, drop, length}
use Rattle.chat_history.specs.StateValue.{HasTaken}
use Rattle.chat_history.specs.History.{norm, changes_of}
use Rattle.chat_state.proofs.MergeLemmas.{change, turn, left}
use Rattle.chat_state.proofs.state.State.merge.Given as goal

-- the first pieces of the turn are taken, and those above the last number are left
abbrev pub invariant-loop-piece : goal.invariant-loop-piece
invariant-loop-piece l = record {
  history : l.self.history ≡ norm (changes_of l.fn.self.history ++ take l.taken (map change (turn l.other-inside.store)));
  held : HasTaken l.fn.self (take l.taken (map change (turn l.other-inside.store))) l.self;
  rest : drop l.taken (turn l.other-inside.store) ≡ left l.other-inside.store l.last;
  few : l.taken ≤ l.last;
}

abbrev pub decreases-loop-piece : goal.decreases-loop-piece
decreases-loop-piece l = length (left l.other-inside.store l.last)
