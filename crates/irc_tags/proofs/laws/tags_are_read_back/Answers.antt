use Rattle.irc_tags.proofs.ReadBackLemmas.{tag_list-tags_text}
use Rattle.irc_tags.proofs.laws.tags_are_read_back.Goals as goal

pub returns : goal.returns
returns c = tag_list-tags_text
