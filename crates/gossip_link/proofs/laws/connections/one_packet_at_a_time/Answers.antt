use Rattle.std.proofs.Common.{Some, refl}
use Rattle.gossip_link.specs.Pace as pace
use Rattle.gossip_link.proofs.CourseLemmas.{waits}
use Rattle.gossip_link.proofs.laws.connections.one_packet_at_a_time.Goals as goal

pub returns : goal.returns
returns c = λ p to since events none due. waits events (pace.made (Some to) since p) to since refl none due
