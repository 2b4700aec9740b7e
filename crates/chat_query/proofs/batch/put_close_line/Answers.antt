use Rattle.byte_text.proofs.CallerLemmas.{prefix_of_first, writes_second, writes_failed}
use Rattle.chat_query.proofs.batch.put_close_line.Goals as goal

pub returns-in_err-put_start : goal.returns-in_err-put_start
returns-in_err-put_start g c = writes_failed _ _ _ _ c.from_residual.result c.from_residual.ensures.1 (prefix_of_first _ _ _ _ c.in_err-put_start.ensures)

pub returns : goal.returns
returns g c = writes_second _ _ _ _ _ c.put.result c.in_ok-put_start.ensures (c.put.ensures)
