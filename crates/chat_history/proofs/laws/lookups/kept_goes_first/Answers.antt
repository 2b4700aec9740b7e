use Rattle.chat_history.proofs.StandingLemmas.{kept_first, kept_none}
use Rattle.chat_history.proofs.laws.lookups.kept_goes_first.Goals as goal

pub returns : goal.returns
returns c = record { kept = kept_first; none = kept_none }
