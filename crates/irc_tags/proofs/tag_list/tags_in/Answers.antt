use Rattle.std.proofs.Common.{sym, subst}
use Rattle.irc_tags.specs.Standing.{CanStand}
use Rattle.irc_tags.proofs.CallerLemmas.{CanStand-tag_list}
use Rattle.irc_tags.proofs.tag_list.tags_in.Goals as goal

pub invariant_of-result : goal.invariant_of-result
invariant_of-result c = subst CanStand (sym c.in-Ok.ensures) (CanStand-tag_list c.args.bytes.now)
