use Rattle.std.proofs.Common.{◌∙◌}
use Rattle.irc_reply.proofs.to_client.support.Goals as goal

pub returns : goal.returns
returns c = let e = c.as_bytes.ensures.value ∙ c.in_ok-history.ensures in rw e at c.reply_text.ensures
