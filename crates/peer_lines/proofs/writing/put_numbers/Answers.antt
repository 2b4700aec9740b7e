use Rattle.byte_text.proofs.CallerLemmas.{prefix_of_first, prefix_of_second, writes_second, writes_failed}
use Rattle.peer_lines.proofs.writing.put_numbers.Goals as goal

pub returns-in_err-put_next_number : goal.returns-in_err-put_next_number
returns-in_err-put_next_number g c = writes_failed _ _ _ _ c.from_residual.result c.from_residual.ensures.1 (prefix_of_first _ _ _ _ c.in_err-put_next_number.ensures)

pub returns-in_err-put_next_number-2 : goal.returns-in_err-put_next_number-2
returns-in_err-put_next_number-2 g c = writes_failed _ _ _ _ c.from_residual-in_err-put_next_number-2.result c.from_residual-in_err-put_next_number-2.ensures.1 (prefix_of_second _ _ _ _ _ c.in_ok-put_next_number.ensures (prefix_of_first _ _ _ _ c.in_err-put_next_number-2.ensures))

pub returns-in_err-put_next_number-3 : goal.returns-in_err-put_next_number-3
returns-in_err-put_next_number-3 g c = writes_failed _ _ _ _ c.from_residual-in_err-put_next_number-3.result c.from_residual-in_err-put_next_number-3.ensures.1 (prefix_of_second _ _ _ _ _ c.in_ok-put_next_number.ensures (prefix_of_second _ _ _ _ _ c.in_ok-put_next_number-2.ensures (prefix_of_first _ _ _ _ c.in_err-put_next_number-3.ensures)))

pub returns : goal.returns
returns g c = writes_second _ _ _ _ _ c.put.result c.in_ok-put_next_number.ensures (writes_second _ _ _ _ _ c.put.result c.in_ok-put_next_number-2.ensures (writes_second _ _ _ _ _ c.put.result c.in_ok-put_next_number-3.ensures (c.put.ensures)))
