use Rattle.byte_text.proofs.CallerLemmas.{prefix_of_first, prefix_of_second, writes_second, writes_failed}
use Rattle.chat_query.proofs.batch.put_start.Goals as goal

pub returns-in_err-put : goal.returns-in_err-put
returns-in_err-put g c = writes_failed _ _ _ _ c.from_residual.result c.from_residual.ensures.1 (prefix_of_first _ _ _ _ c.in_err-put.ensures)

pub returns-in_err-put-2 : goal.returns-in_err-put-2
returns-in_err-put-2 g c = writes_failed _ _ _ _ c.from_residual-in_err-put-2.result c.from_residual-in_err-put-2.ensures.1 (prefix_of_second _ _ _ _ _ c.in_ok-put.ensures (prefix_of_first _ _ _ _ c.in_err-put-2.ensures))

pub returns-in_err-put-3 : goal.returns-in_err-put-3
returns-in_err-put-3 g c = writes_failed _ _ _ _ c.from_residual-in_err-put-3.result c.from_residual-in_err-put-3.ensures.1 (prefix_of_second _ _ _ _ _ c.in_ok-put.ensures (prefix_of_second _ _ _ _ _ c.in_ok-put-2.ensures (prefix_of_first _ _ _ _ c.in_err-put-3.ensures)))

pub returns : goal.returns
returns g c = writes_second _ _ _ _ _ c.put-4.result c.in_ok-put.ensures (writes_second _ _ _ _ _ c.put-4.result c.in_ok-put-2.ensures (writes_second _ _ _ _ _ c.put-4.result c.in_ok-put-3.ensures (c.put-4.ensures)))
