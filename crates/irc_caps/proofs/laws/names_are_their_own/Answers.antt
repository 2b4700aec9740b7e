use Rattle.irc_caps.proofs.HeldLemmas.{own_name}
use Rattle.irc_caps.proofs.laws.names_are_their_own.Goals as goal

pub returns : goal.returns
returns c = own_name
