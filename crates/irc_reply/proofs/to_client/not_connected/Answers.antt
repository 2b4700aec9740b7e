use Rattle.std.proofs.Common.{◌∙◌}
use Rattle.irc_reply.proofs.to_client.not_connected.Goals as goal

pub returns : goal.returns
returns c = let e = c.as_bytes.ensures ∙ c.in_ok-notice.ensures in rw e at c.reply_text.ensures
