use Rattle.std.proofs.Common.{refl, ◌∙◌}
use Rattle.network_client.proofs.StepLemmas.{kept}
use Rattle.network_client.proofs.client.Client.unwatch.Goals as goal

pub invariant_of-self : goal.invariant_of-self
invariant_of-self g c = (c.unwatch.ensures.origin ∙ c.self.invariant.0, kept _ c.self.inside.input c.unwatch.ensures.received refl c.self.invariant.1)
