use Rattle.gossip_link.proofs.CourseLemmas.{not_caught_up_before, not_caught_up_after}
use Rattle.gossip_link.proofs.laws.connections.caught_up_once_nothing_is_new.Goals as goal

pub returns-clause-hello : goal.returns-clause-hello
returns-clause-hello c = not_caught_up_before

pub returns-clause-news : goal.returns-clause-news
returns-clause-news c = not_caught_up_after
