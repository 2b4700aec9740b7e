use Rattle.byte_text.proofs.CallerLemmas.{prefix_of_first, prefix_of_second, writes_second, writes_failed}
use Rattle.chat_query.proofs.batch.write_targets.Goals as goal

pub returns-in_err-put_open : goal.returns-in_err-put_open
returns-in_err-put_open g c = writes_failed _ _ _ _ c.from_residual.result c.from_residual.ensures.1 (prefix_of_first _ _ _ _ c.in_err-put_open.ensures)

pub returns-in_err-put_buffers : goal.returns-in_err-put_buffers
returns-in_err-put_buffers g c = writes_failed _ _ _ _ c.from_residual-in_err-put_buffers.result c.from_residual-in_err-put_buffers.ensures.1 (prefix_of_second _ _ _ _ _ c.in_ok-put_open.ensures (prefix_of_first _ _ _ _ c.in_err-put_buffers.ensures))

pub returns : goal.returns
returns g c = writes_second _ _ _ _ _ c.put_close.result c.in_ok-put_open.ensures (writes_second _ _ _ _ _ c.put_close.result c.in_ok-put_buffers.ensures (c.put_close.ensures))
