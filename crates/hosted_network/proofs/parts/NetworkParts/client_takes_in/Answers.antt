use Rattle.hosted_network.proofs.LogLemmas.{then_both}
use Rattle.hosted_network.proofs.parts.NetworkParts.client_takes_in.Goals as goal

pub returns-else-owed-gt0-clause-leads : goal.returns-else-owed-gt0-clause-leads
returns-else-owed-gt0-clause-leads g c = then_both c.client_reads.ensures.leads c.client_falls.ensures.leads
