use Rattle.irc_time.proofs.PartsLemmas.{moment_once}
use Rattle.irc_time.proofs.laws.a_text_has_one_moment.Goals as goal

pub returns : goal.returns
returns c = moment_once
