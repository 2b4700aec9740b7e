use Rattle.std.proofs.Common.{◌≡◌, ◌+◌, ◌≤◌, vec_len, vec_capacity}
use Rattle.shared_node.specs.Passes.{newcomers}
use Rattle.shared_node.proofs.half.WritingHalf.seat_all.Given as goal

abbrev pub invariant-loop-number : goal.invariant-loop-number
invariant-loop-number g l =
    (l.seated.items ≡ newcomers l.number)
    × (l.all.parts + l.number ≡ l.passes)
    × (l.all.amount ≡ 0)
    × (vec_len l.seated ≡ l.number)
    × (l.passes ≤ vec_capacity l.seated)
