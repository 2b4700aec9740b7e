use Rattle.network_laws.proofs.AccountLemmas.{puts-for-its-account}
use Rattle.network_laws.proofs.each_puts_for_its_account_alone.Goals as goal

pub returns : goal.returns
returns g c = puts-for-its-account g.C.Connection.facts
    (record { enters = c.nobody_enters_without_the_secret.ensures; never_change = c.each_reaches_its_own_past_alone.ensures.same; stays_closed = c.nothing_follows_close.ensures.stays; puts = c.each_reaches_its_own_past_alone.ensures.puts })
    c.changes_are_its_own.ensures.puts c.changes_are_its_own.ensures.same
