use Rattle.std.proofs.Common.{◌≡◌, ◌++◌, length, reverse}
use Rattle.chat_buffers.proofs.AddedLemmas.{to_add}
use Rattle.chat_buffers.proofs.buffers.Buffers.buffers_of.Given as goal

-- with what is left to add the list has what it will have
abbrev pub invariant-loop-buffers : goal.invariant-loop-buffers
invariant-loop-buffers l =
    l.buffers.items ++ to_add l.account (reverse l.below) ≡ to_add l.account (reverse l.initial.below)

abbrev pub decreases-loop-buffers : goal.decreases-loop-buffers
decreases-loop-buffers l = length l.below

abbrev pub invariant-loop-buffers-2 : goal.invariant-loop-buffers-2
invariant-loop-buffers-2 l =
    l.buffers.items ++ to_add l.account l.above ≡ l.initial.buffers.items ++ to_add l.account l.initial.above
