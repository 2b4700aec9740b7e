use Rattle.keeper_laws.proofs.SentLemmas.{may_come}
use Rattle.keeper_laws.proofs.what_may_come_was_made.Goals as goal

pub returns : goal.returns
returns c = may_come c.cluster.ensures.made
