use Rattle.std.proofs.Common.{sym, ◌∙◌}
use Rattle.irc_tags.proofs.CuttingLemmas.{none_passes}
use Rattle.irc_tags.proofs.ValueLemmas.{is_backslash}
use Rattle.irc_tags.proofs.tag_list.has_backslash.Goals as goal

pub returns-in-None : goal.returns-in-None
returns-in-None c e = none_passes is_backslash c.args.bytes.now (sym c.find_byte.ensures.place ∙ c.in-None.is)
