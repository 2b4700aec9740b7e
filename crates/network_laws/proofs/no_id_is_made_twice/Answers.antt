use Rattle.network_laws.proofs.IdsLemmas.{no-id-twice}
use Rattle.network_laws.proofs.no_id_is_made_twice.Goals as goal

pub returns : goal.returns
returns g c = no-id-twice g.C.Connection.facts
    (record { counted = c.ids_are_made_once.ensures.counted; last = c.ids_are_made_once.ensures.last; once = c.ids_are_made_once.ensures.once; same = c.changes_are_its_own.ensures.same })
