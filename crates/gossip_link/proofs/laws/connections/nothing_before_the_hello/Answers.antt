use Rattle.gossip_link.proofs.CourseLemmas.{nothing_before}
use Rattle.gossip_link.proofs.laws.connections.nothing_before_the_hello.Goals as goal

pub returns : goal.returns
returns c = nothing_before
