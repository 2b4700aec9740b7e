use Rattle.hosted_network.proofs.LogLemmas.{then_both}
use Rattle.hosted_network.proofs.parts.NetworkParts.client_is_answered.Goals as goal

pub returns-clause-leads : goal.returns-clause-leads
returns-clause-leads g c = then_both c.flush.ensures.leads c.client_asks.ensures.leads
