use Rattle.chat_history.proofs.SetLemmas.{norm-changes_of}
use Rattle.chat_history.proofs.laws.norm_is_idempotent.Goals as goal

pub returns : goal.returns
returns c = norm-changes_of
