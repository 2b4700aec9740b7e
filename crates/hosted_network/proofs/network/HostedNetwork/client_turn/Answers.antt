use Rattle.hosted_network.proofs.LogLemmas.{reached_both}
use Rattle.hosted_network.proofs.network.HostedNetwork.client_turn.Goals as goal

pub invariant_of-self : goal.invariant_of-self
invariant_of-self g c = reached_both c.self.invariant c.client_turn.ensures.leads
