use Rattle.network_laws.proofs.TellingLemmas.{hears-its-clients}
use Rattle.network_laws.proofs.a_server_is_told_its_own_sessions_and_clients_lines_once.Goals as goal

pub returns : goal.returns
returns g c = hears-its-clients g.C.Connection.facts
    (record { enters = c.nobody_enters_without_the_secret.ensures; never_change = c.each_reaches_its_own_past_alone.ensures.same; stays_closed = c.nothing_follows_close.ensures.stays; puts = c.each_reaches_its_own_past_alone.ensures.puts })
