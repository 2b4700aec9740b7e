use Rattle.hosted_network.proofs.LogLemmas.{reached_both, stays, then_both}
use Rattle.hosted_network.proofs.parts.NetworkParts.server_line.Goals as goal

pub flush-requires : goal.flush-requires
flush-requires g c = reached_both c.requires.reached (then_both c.server_step-step.ensures ∣ stays c.count_line.ensures ∣₁)

pub returns : goal.returns
returns g c = then_both (then_both c.server_step-step.ensures ∣ stays c.count_line.ensures ∣₁) c.flush.ensures.leads
