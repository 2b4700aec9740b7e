use Rattle.std.proofs.Common.{◌∙◌}
use Rattle.hosted_network.proofs.LogLemmas.{reached_both, then_both}
use Rattle.hosted_network.proofs.parts.NetworkParts.clients_send.Goals as goal

pub client_is_sent-requires-clause-reached : goal.client_is_sent-requires-clause-reached
client_is_sent-requires-clause-reached g c = reached_both c.requires c.loop-place.invariant.leads

pub loop-place-preserved : goal.loop-place-preserved
loop-place-preserved g c = record {
  leads = then_both c.loop-place.invariant.leads c.client_is_sent.ensures.leads;
  count = c.client_is_sent.ensures.count ∙ c.loop-place.invariant.count;
  end = c.loop-place.invariant.end;
}
