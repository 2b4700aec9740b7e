use Rattle.irc_tags.proofs.ReadBackLemmas.{text_in_line}
use Rattle.irc_tags.proofs.laws.text_stands_in_a_line.Goals as goal

pub returns : goal.returns
returns c = text_in_line
