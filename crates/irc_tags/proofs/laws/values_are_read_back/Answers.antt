use Rattle.irc_tags.proofs.ValueLemmas.{value_in-value_text}
use Rattle.irc_tags.proofs.laws.values_are_read_back.Goals as goal

pub returns : goal.returns
returns c = value_in-value_text
