use Rattle.std.proofs.Common.{ap, ◌∙◌}
use Rattle.network_log.specs.NetworkState.{NetworkState}
use Rattle.hosted_network.proofs.LogLemmas.{reached_both, then_both}
use Rattle.hosted_network.proofs.parts.NetworkParts.client_takes.Goals as goal

pub client_sends-requires-clause-reached : goal.client_sends-requires-clause-reached
client_sends-requires-clause-reached g c = reached_both c.requires.reached c.client_offers-has_moved.ensures.leads

pub returns-clause-batch : goal.returns-clause-batch
returns-clause-batch g c =
    c.client_ends.ensures.batch
    ∙ ap (λ (w : NetworkState). w.batch) c.client_sends.ensures.alone.is_new
    ∙ ap (λ (w : NetworkState). w.batch) c.client_offers-has_moved.ensures.alone.is_new

pub returns-clause-leads : goal.returns-clause-leads
returns-clause-leads g c =
    then_both (then_both c.client_offers-has_moved.ensures.leads c.client_sends.ensures.leads) c.client_ends.ensures.leads
