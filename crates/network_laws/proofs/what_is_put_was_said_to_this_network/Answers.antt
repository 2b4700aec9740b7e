use Rattle.network_laws.proofs.TellingLemmas.{puts-what-was-said}
use Rattle.network_laws.proofs.what_is_put_was_said_to_this_network.Goals as goal

pub returns : goal.returns
returns g c = puts-what-was-said g.C.Connection.facts
    (record { enters = c.nobody_enters_without_the_secret.ensures; never_change = c.each_reaches_its_own_past_alone.ensures.same; stays_closed = c.nothing_follows_close.ensures.stays; puts = c.each_reaches_its_own_past_alone.ensures.puts })
