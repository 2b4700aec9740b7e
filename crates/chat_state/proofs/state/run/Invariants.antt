use Rattle.std.proofs.Common.{◌≡◌, take, length, min}
use Rattle.chat_history.specs.StateValue.{state_after}
use Rattle.chat_history.specs.Deltas.{all_changes}
use Rattle.chat_state.proofs.state.run.Given as goal

-- the deltas so far are taken
abbrev pub invariant-loop-delta : goal.invariant-loop-delta
invariant-loop-delta l = record {
  held : l.state ≡ state_after 0 (all_changes (take l.delta-index l.deltas));
  count : l.taken ≡ min 18446744073709551615 (length (all_changes (take l.delta-index l.deltas)));
}
