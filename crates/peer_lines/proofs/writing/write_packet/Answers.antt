use Rattle.byte_text.proofs.CallerLemmas.{prefix_of_first, prefix_same, writes_second, writes_failed, writes_same}
use Rattle.std.proofs.Common.{refl}
use Rattle.peer_lines.proofs.WrittenLemmas.{packet_parts}
use Rattle.peer_lines.proofs.writing.write_packet.Goals as goal

pub returns-in_err-put_head : goal.returns-in_err-put_head
returns-in_err-put_head g c = writes_failed _ _ _ _ c.from_residual.result c.from_residual.ensures.1 (prefix_same _ _ _ _ (packet_parts c.args.packet.now c.args.packet.now.changes refl) (prefix_of_first _ _ _ _ c.in_err-put_head.ensures))

pub returns : goal.returns
returns g c = writes_same _ _ _ _ c.put_changes.result (packet_parts c.args.packet.now c.changes.result.now c.changes.ensures) (writes_second _ _ _ _ _ c.put_changes.result c.in_ok-put_head.ensures (c.put_changes.ensures))
