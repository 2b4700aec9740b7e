use Rattle.std.proofs.Common.{take}
use Rattle.std.specs.Io.KnownBytes.{Appends}
use Rattle.chat_query.specs.Batch.{buffers_text}
use Rattle.chat_query.proofs.batch.put_buffers.Given as goal

abbrev pub invariant-loop-buffer : goal.invariant-loop-buffer
invariant-loop-buffer g l = Appends (g.W.Write.contents l.fn.writer) (g.W.Write.contents l.writer) (buffers_text l.caps l.cluster l.reference (take l.buffer-index l.buffers))
