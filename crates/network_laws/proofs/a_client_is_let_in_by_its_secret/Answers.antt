use Rattle.network_laws.proofs.LetInLemmas.{guest-logged}
use Rattle.network_laws.proofs.a_client_is_let_in_by_its_secret.Goals as goal

pub returns : goal.returns
returns g c = guest-logged g.C.Connection.facts c.nobody_enters_without_the_secret.ensures
