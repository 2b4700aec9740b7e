use Rattle.client_session.proofs.EventLemmas.{own_effects, own_name, same_run}
use Rattle.client_session.proofs.laws.each_reaches_its_own_past_alone.Goals as goal

pub returns : goal.returns
returns c = record { puts = own_effects; looks = own_name; same = same_run }
