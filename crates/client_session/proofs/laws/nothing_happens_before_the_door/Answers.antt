use Rattle.client_session.proofs.EventLemmas.{outside, entering}
use Rattle.client_session.proofs.laws.nothing_happens_before_the_door.Goals as goal

pub returns : goal.returns
returns c = record { outside = outside; entering = entering }
