use Rattle.upstream_session.proofs.EventLemmas.{own_effects, home_run}
use Rattle.upstream_session.proofs.laws.changes_are_its_own.Goals as goal

pub returns : goal.returns
returns c = record { puts = own_effects; same = home_run }
