use Rattle.hosted_network.proofs.LogLemmas.{reached_both}
use Rattle.hosted_network.proofs.network.HostedNetwork.server_turn.Goals as goal

pub invariant_of-self : goal.invariant_of-self
invariant_of-self g c = reached_both c.self.invariant c.server_turn.ensures.leads

pub invariant_of-self-in-Rest : goal.invariant_of-self-in-Rest
invariant_of-self-in-Rest g c = reached_both c.self.invariant c.server_turn.ensures.leads

pub invariant_of-self-in-Over : goal.invariant_of-self-in-Over
invariant_of-self-in-Over g c = reached_both c.self.invariant c.server_turn.ensures.leads

pub invariant_of-self-in-Later : goal.invariant_of-self-in-Later
invariant_of-self-in-Later g c = reached_both c.self.invariant c.server_turn.ensures.leads
