use Rattle.chat_history.proofs.SetLemmas.{mark_rises}
use Rattle.chat_history.proofs.laws.markers_never_fall.Goals as goal

pub returns : goal.returns
returns c = mark_rises
