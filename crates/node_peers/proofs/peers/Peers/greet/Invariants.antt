use Rattle.std.proofs.Common.{◌≡◌, length}
use Rattle.node_peers.specs.PeersState.{seat_at}
use Rattle.node_peers.proofs.peers.Peers.greet.Given as goal

abbrev pub invariant-loop-older : goal.invariant-loop-older
invariant-loop-older g l = seat_at l.self l.number ≡ seat_at l.fn.self l.number

abbrev pub decreases-loop-older : goal.decreases-loop-older
decreases-loop-older g l = length l.self.seats
