use Rattle.hosted_network.proofs.LogLemmas.{reached_both, stays, then_both}
use Rattle.hosted_network.proofs.parts.NetworkParts.client_step.Goals as goal

pub flush-requires : goal.flush-requires
flush-requires g c = reached_both c.requires.reached (then_both c.client_speaks.ensures.leads ∣ stays c.count_line.ensures ∣₁)

pub returns-then-is_long-clause-leads : goal.returns-then-is_long-clause-leads
returns-then-is_long-clause-leads g c =
    then_both (then_both c.client_speaks.ensures.leads ∣ stays c.count_line.ensures ∣₁) c.flush.ensures.leads
