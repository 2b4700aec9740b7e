use Rattle.std.proofs.Common.{sym}
use Rattle.irc_tags.proofs.RewriteLemmas.{is_empty-none, is_empty-head, is_empty-long}
use Rattle.irc_tags.proofs.value.is_value_empty.Goals as goal

pub returns-in-empty : goal.returns-in-empty
returns-in-empty c = sym (is_empty-none c.args.bytes.now c.in-empty.len_below)

pub returns-in-len1 : goal.returns-in-len1
returns-in-len1 c = is_empty-head c.args.bytes.now c.in-len1.len_at_least c.in-len1.len_below

pub returns-in_default : goal.returns-in_default
returns-in_default c = sym (is_empty-long c.args.bytes.now c.in_default.len_at_least)
