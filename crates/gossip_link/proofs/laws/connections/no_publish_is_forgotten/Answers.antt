use Rattle.std.proofs.Common.{refl}
use Rattle.gossip_link.specs.Pace as pace
use Rattle.gossip_link.proofs.CourseLemmas.{is_remembered}
use Rattle.gossip_link.proofs.laws.connections.no_publish_is_forgotten.Goals as goal

pub returns : goal.returns
returns c = λ p events greeted none done. is_remembered events (pace.published p) greeted refl none done
