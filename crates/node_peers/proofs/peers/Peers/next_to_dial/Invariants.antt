use Rattle.std.proofs.Common.{◌≡◌}
use Rattle.node_peers.proofs.peers.Peers.next_to_dial.Given as goal

abbrev pub invariant-loop-place : goal.invariant-loop-place
invariant-loop-place g l = l.self ≡ l.fn.self
