-- Where a run through deltas stops that is refused.
use Rattle.std.specs.Prelude.{◌≡◌, ◌<◌, ◌^◌, List, length, take}
use Rattle.chat_change.specs.declared.change.Change.{Change}
use Rattle.chat_history.specs.StateValue.{state_after, IsStoppedAt}
use Rattle.chat_state.specs.declared.faults.TakeFault.{TakeFault}
use Rattle.chat_state.specs.declared.faults.StateFault.TheVariants.{Exhausted}

-- a run through fewer than 2^64 changes stopped after the first `taken` of them
abbrev pub IsStoppedRun : List Change → TakeFault → Type 0
IsStoppedRun changes fault =
    length changes < 2 ^ 64 →
    IsStoppedAt (state_after 0 (take fault.taken changes)) changes fault.taken
    (fault.cause ≡ Exhausted)
