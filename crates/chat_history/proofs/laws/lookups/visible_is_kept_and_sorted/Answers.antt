use Rattle.chat_history.proofs.VisibleLemmas.{visible_is, visible_sorted}
use Rattle.chat_history.proofs.laws.lookups.visible_is_kept_and_sorted.Goals as goal

pub returns : goal.returns
returns c = record { members = visible_is; sorted = visible_sorted }
