use Rattle.byte_text.proofs.CallerLemmas.{prefix_of_first, prefix_same, writes_second, writes_failed, writes_same}
use Rattle.std.proofs.Common.{length, refl, ap}
use Rattle.peer_lines.proofs.WrittenLemmas.{head_parts}
use Rattle.peer_lines.proofs.writing.put_head.Goals as goal

pub returns-in_err-put_lives : goal.returns-in_err-put_lives
returns-in_err-put_lives g c = writes_failed _ _ _ _ c.from_residual.result c.from_residual.ensures.1 (prefix_same _ _ _ _ (head_parts c.args.packet.now c.sender.result.now c.receiver.result.now c.args.packet.now.from c.args.packet.now.to (length c.args.packet.now.changes) c.sender.ensures c.receiver.ensures refl refl refl) (prefix_of_first _ _ _ _ c.in_err-put_lives.ensures))

pub returns : goal.returns
returns g c = writes_same _ _ _ _ c.put_numbers.result (head_parts c.args.packet.now c.sender.result.now c.receiver.result.now c.from.result c.to.result (length c.changes.result.now) c.sender.ensures c.receiver.ensures c.from.ensures c.to.ensures (ap length c.changes.ensures)) (writes_second _ _ _ _ _ c.put_numbers.result c.in_ok-put_lives.ensures (c.put_numbers.ensures))
