use Rattle.gossip_link.proofs.CourseLemmas.{closes}
use Rattle.gossip_link.proofs.laws.connections.closed_after_three_packets.Goals as goal

pub returns-clause-closed : goal.returns-clause-closed
returns-clause-closed c = closes
