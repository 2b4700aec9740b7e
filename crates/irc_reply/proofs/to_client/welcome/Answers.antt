use Rattle.std.proofs.Common.{◌∙◌}
use Rattle.irc_reply.proofs.to_client.welcome.Goals as goal

pub returns : goal.returns
returns c = let e = c.as_bytes.ensures ∙ c.in_ok-greeting.ensures in rw e at c.reply_text.ensures
