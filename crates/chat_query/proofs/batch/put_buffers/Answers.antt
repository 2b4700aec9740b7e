use Rattle.std.proofs.Common.{subst}
use Rattle.std.specs.Io.KnownBytes.{Appends}
use Rattle.std.proofs.KnownBytes.{Appends-trans}
use Rattle.byte_text.proofs.CallerLemmas.{prefix_of_first, prefix_of_second, writes_failed, prefix_same, own_texts_at, own_texts_through}
use Rattle.chat_query.specs.Batch.{buffer_text}
use Rattle.chat_query.proofs.batch.put_buffers.Goals as goal

pub returns-in_err-put_buffer : goal.returns-in_err-put_buffer
returns-in_err-put_buffer g c =
    writes_failed _ _ _ _ c.from_residual.result c.from_residual.ensures.1
    (prefix_same _ _ _ _ (own_texts_at (buffer_text c.args.caps c.args.cluster.now c.args.reference.now) c.args.buffers.now c.loop-buffer.buffer-index c.buffer-item.result c.buffer-item.is c.loop-buffer-test.true)
    (prefix_of_second _ _ _ _ _ c.loop-buffer.invariant (prefix_of_first _ _ _ _ c.in_err-put_buffer.ensures)))

pub loop-buffer-preserved : goal.loop-buffer-preserved
loop-buffer-preserved g c =
    subst (λ l. Appends (g.W.Write.contents c.args.writer.now) (g.W.Write.contents c.put_buffer.new.writer) l)
    (own_texts_through (buffer_text c.args.caps c.args.cluster.now c.args.reference.now) c.args.buffers.now c.loop-buffer.buffer-index c.buffer-item.result c.buffer-item.is c.loop-buffer-test.true)
    (Appends-trans _ _ _ _ _ c.loop-buffer.invariant c.in_ok-put_buffer.ensures)
