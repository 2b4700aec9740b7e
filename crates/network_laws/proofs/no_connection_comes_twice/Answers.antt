use Rattle.network_laws.proofs.OnceLemmas.{all-different}
use Rattle.network_laws.proofs.no_connection_comes_twice.Goals as goal

pub returns : goal.returns
returns g c = all-different g.C.Connection.facts
