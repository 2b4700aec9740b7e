use Rattle.client_session.proofs.EventLemmas.{entered}
use Rattle.client_session.proofs.laws.nobody_enters_without_the_secret.Goals as goal

pub returns : goal.returns
returns c = λ cluster maximum events f h. entered _ events f tt h
