use Rattle.hosted_network.proofs.LogLemmas.{then_both}
use Rattle.hosted_network.proofs.ServerLemmas.{goes}
use Rattle.hosted_network.proofs.parts.NetworkParts.server_comes.Goals as goal

pub returns-clause-leads : goal.returns-clause-leads
returns-clause-leads g c = then_both ∣ goes c.server_goes.ensures ∣₁ c.server_begins.ensures.leads
