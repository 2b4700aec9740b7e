use Rattle.std.proofs.Common.{◌∙◌}
use Rattle.hosted_network.proofs.LogLemmas.{reached_both, then_both}
use Rattle.hosted_network.proofs.parts.NetworkParts.client_is_sent.Goals as goal

pub client_takes-requires-clause-reached : goal.client_takes-requires-clause-reached
client_takes-requires-clause-reached g c = reached_both c.requires.reached c.loop.invariant.leads

pub loop-preserved : goal.loop-preserved
loop-preserved g c = record {
  leads = then_both c.loop.invariant.leads c.client_takes.ensures.leads;
  count = c.client_takes.ensures.count ∙ c.loop.invariant.count;
}
