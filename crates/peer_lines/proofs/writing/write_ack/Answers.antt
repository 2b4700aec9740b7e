use Rattle.byte_text.proofs.CallerLemmas.{prefix_of_first, prefix_of_second, prefix_same, writes_second, writes_failed, writes_same}
use Rattle.std.proofs.Common.{refl}
use Rattle.peer_lines.proofs.WrittenLemmas.{ack_parts}
use Rattle.peer_lines.proofs.writing.write_ack.Goals as goal

pub returns-in_err-put_lives : goal.returns-in_err-put_lives
returns-in_err-put_lives g c = writes_failed _ _ _ _ c.from_residual.result c.from_residual.ensures.1 (prefix_same _ _ _ _ (ack_parts c.args.ack.now c.sender.result.now c.receiver.result.now c.args.ack.now.upto c.sender.ensures c.receiver.ensures refl) (prefix_of_first _ _ _ _ c.in_err-put_lives.ensures))

pub returns-in_err-put_next_number : goal.returns-in_err-put_next_number
returns-in_err-put_next_number g c = writes_failed _ _ _ _ c.from_residual-in_err-put_next_number.result c.from_residual-in_err-put_next_number.ensures.1 (prefix_same _ _ _ _ (ack_parts c.args.ack.now c.sender.result.now c.receiver.result.now c.upto.result c.sender.ensures c.receiver.ensures c.upto.ensures) (prefix_of_second _ _ _ _ _ c.in_ok-put_lives.ensures (prefix_of_first _ _ _ _ c.in_err-put_next_number.ensures)))

pub returns : goal.returns
returns g c = writes_same _ _ _ _ c.put.result (ack_parts c.args.ack.now c.sender.result.now c.receiver.result.now c.upto.result c.sender.ensures c.receiver.ensures c.upto.ensures) (writes_second _ _ _ _ _ c.put.result c.in_ok-put_lives.ensures (writes_second _ _ _ _ _ c.put.result c.in_ok-put_next_number.ensures (c.put.ensures)))
