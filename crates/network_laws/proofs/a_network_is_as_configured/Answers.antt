use Rattle.network_laws.proofs.GuestsLemmas.{is-configured, stays-configured}
use Rattle.network_laws.proofs.a_network_is_as_configured.Goals as goal

pub returns-clause-is : goal.returns-clause-is
returns-clause-is g c = is-configured g.C.Connection.facts

pub returns-clause-stays : goal.returns-clause-stays
returns-clause-stays g c = stays-configured g.C.Connection.facts
