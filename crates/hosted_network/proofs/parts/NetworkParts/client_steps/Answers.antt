use Rattle.std.proofs.Common.{◌∙◌}
use Rattle.hosted_network.proofs.LogLemmas.{reached_both, then_both}
use Rattle.hosted_network.proofs.parts.NetworkParts.client_steps.Goals as goal

pub client_step-requires-clause-reached : goal.client_step-requires-clause-reached
client_step-requires-clause-reached g c = reached_both c.requires.reached c.loop.invariant.leads

pub returns-in-Some-clause-leads : goal.returns-in-Some-clause-leads
returns-in-Some-clause-leads g c = then_both c.loop.invariant.leads c.client_step.ensures.leads

pub loop-preserved : goal.loop-preserved
loop-preserved g c = record {
  leads = then_both c.loop.invariant.leads c.client_step.ensures.leads;
  count = c.client_step.ensures.count ∙ c.loop.invariant.count;
}
