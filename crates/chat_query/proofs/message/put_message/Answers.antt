use Rattle.std.proofs.Common.{◌∙◌}
use Rattle.byte_text.proofs.CallerLemmas.{writes_same}
use Rattle.chat_query.proofs.MessageLemmas.{sent_is_written}
use Rattle.chat_query.proofs.message.put_message.Goals as goal

pub returns : goal.returns
returns g c = writes_same _ _ _ _ c.put.result (c.line.ensures ∙ sent_is_written c.args.message.now) c.put.ensures
