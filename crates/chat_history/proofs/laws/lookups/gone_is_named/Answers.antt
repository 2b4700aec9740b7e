use Rattle.chat_history.proofs.StandingLemmas.{gone_named}
use Rattle.chat_history.proofs.laws.lookups.gone_is_named.Goals as goal

pub returns : goal.returns
returns c = gone_named
