use Rattle.std.proofs.Common.{◌≡◌, ◌++◌, take}
use Rattle.chat_history.specs.StateValue.{HasTaken}
use Rattle.chat_history.specs.History.{norm, changes_of}
use Rattle.chat_state.proofs.state.State.take.Given as goal

-- the changes so far are taken
abbrev pub invariant-loop-i : goal.invariant-loop-i
invariant-loop-i l = record { history : l.self.history ≡ norm (changes_of l.fn.self.history ++ take l.i l.changes); held : HasTaken l.fn.self (take l.i l.changes) l.self }
