use Rattle.hosted_network.proofs.LogLemmas.{then_both}
use Rattle.hosted_network.proofs.parts.NetworkParts.client_listens.Goals as goal

pub returns-clause-leads : goal.returns-clause-leads
returns-clause-leads g c = then_both c.client_hears.ensures.leads c.client_takes_in.ensures.leads
