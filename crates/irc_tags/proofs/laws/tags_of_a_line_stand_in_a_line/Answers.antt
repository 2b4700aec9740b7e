use Rattle.irc_tags.proofs.StandingLemmas.{CanStandInLine-tag_list}
use Rattle.irc_tags.proofs.laws.tags_of_a_line_stand_in_a_line.Goals as goal

pub returns : goal.returns
returns c = CanStandInLine-tag_list
