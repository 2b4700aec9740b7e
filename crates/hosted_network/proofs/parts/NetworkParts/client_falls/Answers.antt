use Rattle.hosted_network.proofs.GuestLemmas.{falls}
use Rattle.hosted_network.proofs.parts.NetworkParts.client_falls.Goals as goal

pub returns-clause-leads : goal.returns-clause-leads
returns-clause-leads g c = ∣ falls c.self.view_is c.requires c.index_mut.ensures.value c.fall.ensures ∣₁
