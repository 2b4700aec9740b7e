use Rattle.std.proofs.Common.{subst}
use Rattle.std.specs.Io.KnownBytes.{Appends}
use Rattle.std.proofs.KnownBytes.{Appends-trans}
use Rattle.byte_text.proofs.CallerLemmas.{prefix_of_first, prefix_of_second, writes_failed, prefix_same, texts_at, texts_through}
use Rattle.peer_lines.specs.Spelling.{written}
use Rattle.peer_lines.specs.declared.peer_line.PeerLine.TheVariants.{Change}
use Rattle.peer_lines.proofs.writing.put_changes.Goals as goal

pub returns-in_err-write_change : goal.returns-in_err-write_change
returns-in_err-write_change g c =
    writes_failed _ _ _ _ c.from_residual.result c.from_residual.ensures.1
    (prefix_same _ _ _ _ (texts_at (λ d. Change d) written c.args.changes.now c.loop-change.change-index c.change-item.result c.change-item.is c.loop-change-test.true)
    (prefix_of_second _ _ _ _ _ c.loop-change.invariant (prefix_of_first _ _ _ _ c.in_err-write_change.ensures.text)))

pub loop-change-preserved : goal.loop-change-preserved
loop-change-preserved g c =
    subst (λ l. Appends (g.W.Write.contents c.args.writer.now) (g.W.Write.contents c.write_change.new.writer) l)
    (texts_through (λ d. Change d) written c.args.changes.now c.loop-change.change-index c.change-item.result c.change-item.is c.loop-change-test.true)
    (Appends-trans _ _ _ _ _ c.loop-change.invariant c.in_ok-write_change.ensures.text)
