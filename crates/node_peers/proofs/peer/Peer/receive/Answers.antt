use Rattle.std.proofs.Common.{refl, ◌∙◌, take}
use Rattle.std.proofs.Math.Logic.{∥∥₁_map}
use Rattle.node_peers.proofs.ServedLemmas.{came-still, receives}
use Rattle.node_peers.proofs.peer.Peer.receive.Goals as goal

pub invariant_of-self : goal.invariant_of-self
invariant_of-self g c = (
  c.receive.ensures.origin ∙ c.self.invariant.0,
  c.self.invariant.1,
  came-still g.C.Connection.facts _ _ _ _ _ _ c.receive.ensures.origin c.receive.ensures.serial refl c.in-Ok.ensures.evidence,
  λ e. ∥∥₁_map (c.self.invariant.3 e) (receives _ _ c.receive.new.self (take c.in-Ok.count c.receive.new.chunk) c.in-Ok.ensures.received c.in-Ok.ensures.held c.receive.ensures.sent),
)
