use Rattle.std.proofs.Common.{length, ◌≡◌}
use Rattle.std.specs.VecDeque.Iter.{deque_iter_rest}
use Rattle.ordered_maps.specs.Parts.{what_is_left}
use Rattle.ordered_maps.proofs.packed_map.entries.PackedEntriesDoubleEndedIterator.next_back.Given as goal

abbrev pub invariant-loop-key : goal.invariant-loop-key
invariant-loop-key g l = what_is_left l.self-inside.first l.self-inside.pages l.self-inside.last ≡ l.fn.self

abbrev pub decreases-loop-key : goal.decreases-loop-key
decreases-loop-key g l = length (deque_iter_rest l.self-inside.pages)
