use Rattle.irc_caps.proofs.HeldLemmas.{last_word_counts}
use Rattle.irc_caps.proofs.laws.the_last_word_counts.Goals as goal

pub returns : goal.returns
returns c = last_word_counts
