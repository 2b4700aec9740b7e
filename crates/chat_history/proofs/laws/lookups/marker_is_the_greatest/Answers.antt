use Rattle.chat_history.proofs.StandingLemmas.{mark_greatest, mark_none}
use Rattle.chat_history.proofs.laws.lookups.marker_is_the_greatest.Goals as goal

pub returns : goal.returns
returns c = record { set = mark_greatest; none = mark_none }
