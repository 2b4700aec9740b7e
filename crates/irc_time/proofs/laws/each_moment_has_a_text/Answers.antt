use Rattle.irc_time.proofs.MomentLemmas.{moment_text}
use Rattle.irc_time.proofs.laws.each_moment_has_a_text.Goals as goal

pub returns : goal.returns
returns c = moment_text
