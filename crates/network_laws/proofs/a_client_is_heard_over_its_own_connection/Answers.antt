use Rattle.network_laws.proofs.TellingLemmas.{guest-heard}
use Rattle.network_laws.proofs.a_client_is_heard_over_its_own_connection.Goals as goal

pub returns : goal.returns
returns g c = guest-heard g.C.Connection.facts
    (record { enters = c.nobody_enters_without_the_secret.ensures; never_change = c.each_reaches_its_own_past_alone.ensures.same; stays_closed = c.nothing_follows_close.ensures.stays; puts = c.each_reaches_its_own_past_alone.ensures.puts })
