use Rattle.chat_history.proofs.NormLemmas.{norm_parts}
use Rattle.chat_history.proofs.laws.normal_forms_join.Goals as goal

pub returns : goal.returns
returns c = norm_parts
