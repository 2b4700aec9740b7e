use Rattle.irc_tags.proofs.StandingLemmas.{CanStand-tag_list}
use Rattle.irc_tags.proofs.laws.tags_that_are_read_can_stand.Goals as goal

pub returns : goal.returns
returns c = CanStand-tag_list
