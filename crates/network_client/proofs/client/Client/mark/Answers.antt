use Rattle.std.proofs.Common.{refl}
use Rattle.network_client.proofs.StepLemmas.{kept}
use Rattle.network_client.proofs.client.Client.mark.Goals as goal

pub invariant_of-self : goal.invariant_of-self
invariant_of-self g c = (c.self.invariant.0, kept _ c.self.inside.input refl c.mark_readable.ensures c.self.invariant.1)
