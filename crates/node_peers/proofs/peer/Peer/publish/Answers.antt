use Rattle.std.proofs.Math.Logic.{∥∥₁_map}
use Rattle.node_peers.proofs.ServedLemmas.{publishes}
use Rattle.node_peers.proofs.peer.Peer.publish.Goals as goal

pub invariant_of-self : goal.invariant_of-self
invariant_of-self g c = (c.self.invariant.0, c.self.invariant.1, c.self.invariant.2, λ e. ∥∥₁_map (c.self.invariant.3 e) (publishes c.publish.new.self c.publish.ensures))
