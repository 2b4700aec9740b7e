use Rattle.network_laws.proofs.OnceLemmas.{acts-different, said-different, streams-different}
use Rattle.network_laws.proofs.nothing_is_there_twice.Goals as goal

pub returns : goal.returns
returns g c = record {
  streams = streams-different g.C.Connection.facts;
  said = said-different g.C.Connection.facts;
  acts = acts-different g.C.Connection.facts;
}
