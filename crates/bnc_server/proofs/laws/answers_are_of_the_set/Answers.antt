use Rattle.bnc_server.proofs.OrderLemmas.{same_printed}
use Rattle.bnc_server.proofs.laws.answers_are_of_the_set.Goals as goal

pub returns : goal.returns
returns c = same_printed
