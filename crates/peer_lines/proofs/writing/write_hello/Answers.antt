use Rattle.byte_text.proofs.CallerLemmas.{prefix_of_first, prefix_of_second, prefix_same, writes_second, writes_failed, writes_same}
use Rattle.std.proofs.Common.{◌∙◌, refl}
use Rattle.cluster_directory.specs.Version.{number}
use Rattle.peer_lines.proofs.WrittenLemmas.{hello_parts}
use Rattle.peer_lines.proofs.writing.write_hello.Goals as goal

pub returns-in_err-put : goal.returns-in_err-put
returns-in_err-put g c = writes_failed _ _ _ _ c.from_residual.result c.from_residual.ensures.1 (prefix_same _ _ _ _ (hello_parts c.args.life.now c.args.version (number c.args.version) refl) (prefix_of_first _ _ _ _ c.in_err-put.ensures))

pub returns-in_err-put_next_number : goal.returns-in_err-put_next_number
returns-in_err-put_next_number g c = writes_failed _ _ _ _ c.from_residual-in_err-put_next_number.result c.from_residual-in_err-put_next_number.ensures.1 (prefix_same _ _ _ _ (hello_parts c.args.life.now c.args.version c.from.result (c.from.ensures ∙ c.number.ensures)) (prefix_of_second _ _ _ _ _ c.in_ok-put.ensures (prefix_of_first _ _ _ _ c.in_err-put_next_number.ensures)))

pub returns-in_err-put_next_life : goal.returns-in_err-put_next_life
returns-in_err-put_next_life g c = writes_failed _ _ _ _ c.from_residual-in_err-put_next_life.result c.from_residual-in_err-put_next_life.ensures.1 (prefix_same _ _ _ _ (hello_parts c.args.life.now c.args.version c.from.result (c.from.ensures ∙ c.number.ensures)) (prefix_of_second _ _ _ _ _ c.in_ok-put.ensures (prefix_of_second _ _ _ _ _ c.in_ok-put_next_number.ensures (prefix_of_first _ _ _ _ c.in_err-put_next_life.ensures))))

pub returns : goal.returns
returns g c = writes_same _ _ _ _ c.put-2.result (hello_parts c.args.life.now c.args.version c.from.result (c.from.ensures ∙ c.number.ensures)) (writes_second _ _ _ _ _ c.put-2.result c.in_ok-put.ensures (writes_second _ _ _ _ _ c.put-2.result c.in_ok-put_next_number.ensures (writes_second _ _ _ _ _ c.put-2.result c.in_ok-put_next_life.ensures c.put-2.ensures)))
