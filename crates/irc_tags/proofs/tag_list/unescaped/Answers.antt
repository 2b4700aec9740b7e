use Rattle.std.proofs.Common.{sym}
use Rattle.irc_tags.proofs.ValueLemmas.{value_in-all_plain}
use Rattle.irc_tags.proofs.tag_list.unescaped.Goals as goal

pub returns-else-has_escapes : goal.returns-else-has_escapes
returns-else-has_escapes c = sym (value_in-all_plain c.args.bytes.now (c.requires c.if-has_escapes.false))
