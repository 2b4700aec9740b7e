use Rattle.upstream_session.proofs.EventLemmas.{own_tags}
use Rattle.upstream_session.proofs.laws.tags_are_those_of_the_line.Goals as goal

pub returns : goal.returns
returns c = own_tags
