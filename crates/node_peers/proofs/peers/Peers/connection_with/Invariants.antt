use Rattle.std.proofs.Common.{◌≢◌, ℕ, Some, map}
use Rattle.std.specs.List.{All}
use Rattle.std.specs.Map.Iter.{deref_pair}
use Rattle.node_peers.specs.Seat.{Seat}
use Rattle.node_peers.proofs.peers.Peers.connection_with.Given as goal

abbrev pub invariant-loop-number : goal.invariant-loop-number
invariant-loop-number g l = All (λ (e : ℕ × Seat). e.1.peer.talk.noted ≢ Some l.place) (map deref_pair l.yielded)
