use Rattle.hosted_network.proofs.LogLemmas.{reached_both, stays, then_both}
use Rattle.hosted_network.proofs.ServerLemmas.{goes}
use Rattle.hosted_network.proofs.parts.NetworkParts.server_turn.Goals as goal

pub flush-requires : goal.flush-requires
flush-requires g c = reached_both c.requires.reached c.server_lines-step.ensures

pub server_sends-requires : goal.server_sends-requires
server_sends-requires g c = reached_both c.requires.reached (then_both c.server_lines-step.ensures c.flush.ensures.leads)

pub returns-in_default-clause-leads : goal.returns-in_default-clause-leads
returns-in_default-clause-leads g c =
    then_both (then_both c.server_lines-step.ensures c.flush.ensures.leads) ∣ stays c.server_sends.ensures ∣₁

pub returns-clause-leads : goal.returns-clause-leads
returns-clause-leads g c =
    then_both (then_both (then_both c.server_lines-step.ensures c.flush.ensures.leads) ∣ stays c.server_sends.ensures ∣₁) ∣ goes c.server_goes.ensures ∣₁
