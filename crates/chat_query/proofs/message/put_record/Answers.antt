use Rattle.byte_text.proofs.CallerLemmas.{prefix_of_first, writes_second, writes_failed}
use Rattle.chat_query.proofs.message.put_record.Goals as goal

pub returns-in_err-put_tags : goal.returns-in_err-put_tags
returns-in_err-put_tags g c = writes_failed _ _ _ _ c.from_residual.result c.from_residual.ensures.1 (prefix_of_first _ _ _ _ c.in_err-put_tags.ensures)

pub returns : goal.returns
returns g c = writes_second _ _ _ _ _ c.put_message.result c.in_ok-put_tags.ensures (c.put_message.ensures)
