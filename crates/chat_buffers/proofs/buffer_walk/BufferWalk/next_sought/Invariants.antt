use Rattle.std.proofs.Common.{◌≡◌, length}
use Rattle.std.specs.Option.{option_map}
use Rattle.std.specs.Map.Iter.{deref}
use Rattle.chat_buffers.specs.Ahead.{IsAhead}
use Rattle.chat_buffers.specs.Store.{history_in}
use Rattle.chat_buffers.proofs.SoughtLemmas.{IsLeft}
use Rattle.chat_buffers.proofs.buffer_walk.BufferWalk.next_sought.Given as goal

-- what is left has all that is ahead, and all the buffers that are sought
abbrev pub invariant-loop-buffer : goal.invariant-loop-buffer
invariant-loop-buffer l =
    let w = l.self-inside in
    IsAhead (history_in w.buffers.now) (option_map deref w.last) w.later
    × IsLeft (history_in w.buffers.now) l.sought l.fn.self.last w.later
    × (l.fn.self.store ≡ w.buffers.now)

abbrev pub decreases-loop-buffer : goal.decreases-loop-buffer
decreases-loop-buffer l = length l.self-inside.later
