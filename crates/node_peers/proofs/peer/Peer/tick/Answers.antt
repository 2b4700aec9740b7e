use Rattle.std.proofs.Math.Logic.{∥∥₁_map}
use Rattle.node_peers.proofs.ServedLemmas.{ticks}
use Rattle.node_peers.proofs.peer.Peer.tick.Goals as goal

pub invariant_of-self : goal.invariant_of-self
invariant_of-self g c = (c.self.invariant.0, c.self.invariant.1, c.self.invariant.2, λ e. ∥∥₁_map (c.self.invariant.3 e) (ticks c.args.now c.tick.new.self c.tick.ensures.pace))
