use Rattle.byte_text.proofs.CallerLemmas.{prefix_of_first, prefix_of_second, writes_second, writes_failed}
use Rattle.chat_query.proofs.batch.write_page.Goals as goal

pub returns-in_err-put_open : goal.returns-in_err-put_open
returns-in_err-put_open g c = writes_failed _ _ _ _ c.from_residual.result c.from_residual.ensures.1 (prefix_of_first _ _ _ _ c.in_err-put_open.ensures)

pub returns-in_err-put_records : goal.returns-in_err-put_records
returns-in_err-put_records g c = writes_failed _ _ _ _ c.from_residual-in_err-put_records.result c.from_residual-in_err-put_records.ensures.1 (prefix_of_second _ _ _ _ _ c.in_ok-put_open.ensures (prefix_of_first _ _ _ _ c.in_err-put_records.ensures))

pub returns : goal.returns
returns g c = writes_second _ _ _ _ _ c.put_close.result c.in_ok-put_open.ensures (writes_second _ _ _ _ _ c.put_close.result c.in_ok-put_records.ensures (c.put_close.ensures))
