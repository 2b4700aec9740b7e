use Rattle.byte_text.proofs.CallerLemmas.{prefix_of_first, prefix_of_second, prefix_same, writes_second, writes_failed, writes_same}
use Rattle.std.proofs.Common.{refl, ◌∙◌}
use Rattle.peer_lines.proofs.WrittenLemmas.{life_parts}
use Rattle.peer_lines.proofs.writing.put_next_life.Goals as goal

pub returns-in_err-put : goal.returns-in_err-put
returns-in_err-put g c = writes_failed _ _ _ _ c.from_residual.result c.from_residual.ensures.1 (prefix_same _ _ _ _ (life_parts c.args.life.now c.args.life.now.node c.args.life.now.incarnation refl refl) (prefix_of_first _ _ _ _ c.in_err-put.ensures))

pub returns-in_err-put-2 : goal.returns-in_err-put-2
returns-in_err-put-2 g c = writes_failed _ _ _ _ c.from_residual-in_err-put-2.result c.from_residual-in_err-put-2.ensures.1 (prefix_same _ _ _ _ (life_parts c.args.life.now c.as_bytes.result.now c.args.life.now.incarnation (c.as_bytes.ensures.value ∙ c.node.ensures) refl) (prefix_of_second _ _ _ _ _ c.in_ok-put.ensures (prefix_of_first _ _ _ _ c.in_err-put-2.ensures)))

pub returns : goal.returns
returns g c = writes_same _ _ _ _ c.put_next_number.result (life_parts c.args.life.now c.as_bytes.result.now c.incarnation.result (c.as_bytes.ensures.value ∙ c.node.ensures) c.incarnation.ensures) (writes_second _ _ _ _ _ c.put_next_number.result c.in_ok-put.ensures (writes_second _ _ _ _ _ c.put_next_number.result c.in_ok-put-2.ensures (c.put_next_number.ensures)))
