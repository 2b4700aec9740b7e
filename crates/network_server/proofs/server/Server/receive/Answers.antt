use Rattle.std.proofs.Common.{◌∙◌, take}
use Rattle.network_server.proofs.EventLemmas.{received-more}
use Rattle.network_server.proofs.server.Server.receive.Goals as goal

pub invariant_of-self : goal.invariant_of-self
invariant_of-self g c = (
  c.receive.ensures.origin ∙ c.self.invariant.0,
  c.self.invariant.1,
  received-more _ _ _ (take c.in-Ok.count c.receive.new.chunk) _ _ c.in-Ok.ensures.received c.in-Ok.ensures.held c.self.invariant.2,
)
