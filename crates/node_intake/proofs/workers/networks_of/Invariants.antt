use Rattle.std.proofs.Common.{◌≡◌, map, take}
use Rattle.node_intake.proofs.workers.networks_of.Given as goal

abbrev pub invariant-loop-network : goal.invariant-loop-network
invariant-loop-network l = l.addresses.items ≡ map (λ n. n.address) (take l.network-index l.networks)
