use Rattle.upstream_session.proofs.EventLemmas.{own_ids, counted, last_serial, once}
use Rattle.upstream_session.proofs.laws.ids_are_made_once.Goals as goal

pub returns : goal.returns
returns c = record { each = own_ids; counted = counted; last = last_serial; once = once }
