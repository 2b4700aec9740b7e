use Rattle.irc_tags.proofs.LengthLemmas.{text_is_no_longer}
use Rattle.irc_tags.proofs.laws.text_of_a_line_is_no_longer.Goals as goal

pub returns : goal.returns
returns c = text_is_no_longer
