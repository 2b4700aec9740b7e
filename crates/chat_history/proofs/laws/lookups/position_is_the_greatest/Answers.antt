use Rattle.chat_history.proofs.StandingLemmas.{position_greatest, position_none}
use Rattle.chat_history.proofs.laws.lookups.position_is_the_greatest.Goals as goal

pub returns : goal.returns
returns c = record { some = position_greatest; none = position_none }
