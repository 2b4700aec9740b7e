use Rattle.std.proofs.Math.Logic.{∥∥₁_map}
use Rattle.node_peers.proofs.ServedLemmas.{notes}
use Rattle.node_peers.proofs.peer.Peer.note.Goals as goal

pub invariant_of-self : goal.invariant_of-self
invariant_of-self g c = (c.self.invariant.0, c.self.invariant.1, c.self.invariant.2, λ e. ∥∥₁_map (c.self.invariant.3 e) (notes c.note.new.self c.note.ensures))
