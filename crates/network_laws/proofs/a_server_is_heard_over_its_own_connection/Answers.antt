use Rattle.network_laws.proofs.ServerLemmas.{server-heard}
use Rattle.network_laws.proofs.a_server_is_heard_over_its_own_connection.Goals as goal

pub returns : goal.returns
returns g c = server-heard g.C.Connection.facts
