use Rattle.upstream_session.proofs.EventLemmas.{unheard_from_new}
use Rattle.upstream_session.proofs.laws.nothing_is_heard_before_the_welcome.Goals as goal

pub returns : goal.returns
returns c = unheard_from_new
