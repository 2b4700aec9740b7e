use Rattle.std.proofs.Common.{◌≡◌, map, take}
use Rattle.node_intake.proofs.workers.peers_of.Given as goal

abbrev pub invariant-loop-peer : goal.invariant-loop-peer
invariant-loop-peer l = l.addresses.items ≡ map (λ p. p.address) (take l.peer-index l.peers)
