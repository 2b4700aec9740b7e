use Rattle.byte_text.proofs.CallerLemmas.{prefix_of_first, writes_second, writes_failed}
use Rattle.chat_query.proofs.batch.put_pair.Goals as goal

pub returns-in_err-put : goal.returns-in_err-put
returns-in_err-put g c = writes_failed _ _ _ _ c.from_residual.result c.from_residual.ensures.1 (prefix_of_first _ _ _ _ c.in_err-put.ensures)

pub returns : goal.returns
returns g c = writes_second _ _ _ _ _ c.put-2.result c.in_ok-put.ensures (c.put-2.ensures)
