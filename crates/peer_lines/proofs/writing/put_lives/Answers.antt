use Rattle.byte_text.proofs.CallerLemmas.{prefix_of_first, prefix_of_second, writes_second, writes_failed}
use Rattle.peer_lines.proofs.writing.put_lives.Goals as goal

pub returns-in_err-put : goal.returns-in_err-put
returns-in_err-put g c = writes_failed _ _ _ _ c.from_residual.result c.from_residual.ensures.1 (prefix_of_first _ _ _ _ c.in_err-put.ensures)

pub returns-in_err-put_next_life : goal.returns-in_err-put_next_life
returns-in_err-put_next_life g c = writes_failed _ _ _ _ c.from_residual-in_err-put_next_life.result c.from_residual-in_err-put_next_life.ensures.1 (prefix_of_second _ _ _ _ _ c.in_ok-put.ensures (prefix_of_first _ _ _ _ c.in_err-put_next_life.ensures))

pub returns : goal.returns
returns g c = writes_second _ _ _ _ _ c.put_next_life-2.result c.in_ok-put.ensures (writes_second _ _ _ _ _ c.put_next_life-2.result c.in_ok-put_next_life.ensures (c.put_next_life-2.ensures))
