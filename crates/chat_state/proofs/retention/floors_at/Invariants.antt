use Rattle.std.proofs.Common.{◌≡◌, length}
use Rattle.std.specs.List.{filter}
use Rattle.chat_change.specs.Buffer.{Buffer}
use Rattle.chat_change.specs.declared.change.Change.TheVariants.{Floor}
use Rattle.chat_buffers.specs.declared.sought.Sought.TheVariants.{Outdated}
use Rattle.chat_buffers.specs.Store.{history_in}
use Rattle.chat_buffers.specs.Sought.{sought_buffers, is_past}
use Rattle.chat_state.proofs.BuffersLemmas.{IsMade}
use Rattle.chat_state.proofs.retention.floors_at.Given as goal

-- the floors so far, and those of the buffers that come after the last one
abbrev pub invariant-loop-buffer : goal.invariant-loop-buffer
invariant-loop-buffer l =
    IsMade (λ (b : Buffer). Floor b l.at) (sought_buffers (Outdated l.at) (history_in l.store)) l.floors.items l.walk.last
    × (l.walk.store ≡ l.store)

-- the buffers that come after the last one
abbrev pub decreases-loop-buffer : goal.decreases-loop-buffer
decreases-loop-buffer l = length (filter (is_past l.walk.last) (sought_buffers (Outdated l.at) (history_in l.store)))
