use Rattle.hosted_network.proofs.LogLemmas.{reached_both, then_both}
use Rattle.hosted_network.proofs.parts.NetworkParts.client_turn.Goals as goal

pub flush-requires : goal.flush-requires
flush-requires g c = reached_both c.requires.reached c.client_steps-turn.ensures.leads

pub client_takes-has_moved-requires-clause-reached : goal.client_takes-has_moved-requires-clause-reached
client_takes-has_moved-requires-clause-reached g c =
    reached_both (reached_both c.requires.reached c.client_steps-turn.ensures.leads) c.flush.ensures.leads

pub returns-clause-leads : goal.returns-clause-leads
returns-clause-leads g c =
    then_both (then_both c.client_steps-turn.ensures.leads c.flush.ensures.leads) c.client_takes-has_moved.ensures.leads
