use Rattle.std.proofs.Common.{◌≡◌, ◌++◌, length, take, drop}
use Rattle.network_log.specs.NetworkState.{with_told}
use Rattle.hosted_network.proofs.marks.note.Given as goal

abbrev pub invariant-loop-place : goal.invariant-loop-place
invariant-loop-place l =
    (length l.markers.items ≡ l.place-end)
    × (take l.place l.markers.items ++ with_told l.buffer l.at (drop l.place l.markers.items) ≡ with_told l.buffer l.at l.fn.markers.items)
    × (l.markers.items ≡ l.fn.markers.items)
