use Rattle.std.proofs.Common.{refl, ◌∙◌}
use Rattle.network_client.proofs.StepLemmas.{kept}
use Rattle.network_client.proofs.client.Client.watch.Goals as goal

pub invariant_of-self : goal.invariant_of-self
invariant_of-self g c = (c.watch.ensures.origin ∙ c.self.invariant.0, kept _ c.self.inside.input c.watch.ensures.received refl c.self.invariant.1)
