use Rattle.chat_history.proofs.SetLemmas.{norm_of_set}
use Rattle.chat_history.proofs.laws.norm_is_of_the_set.Goals as goal

pub returns : goal.returns
returns c = norm_of_set
