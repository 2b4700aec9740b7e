use Rattle.network_laws.proofs.TellingLemmas.{hears-its-own}
use Rattle.network_laws.proofs.a_client_is_told_of_its_own_network_alone.Goals as goal

pub returns : goal.returns
returns g c = hears-its-own g.C.Connection.facts
    (record { enters = c.nobody_enters_without_the_secret.ensures; never_change = c.each_reaches_its_own_past_alone.ensures.same; stays_closed = c.nothing_follows_close.ensures.stays; puts = c.each_reaches_its_own_past_alone.ensures.puts })
