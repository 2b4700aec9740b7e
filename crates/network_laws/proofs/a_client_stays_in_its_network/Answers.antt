use Rattle.network_laws.proofs.OwnLemmas.{guest-stays}
use Rattle.network_laws.proofs.a_client_stays_in_its_network.Goals as goal

pub returns : goal.returns
returns g c = guest-stays g.C.Connection.facts c.each_reaches_its_own_past_alone.ensures.same c.nothing_follows_close.ensures.stays
