use Rattle.std.proofs.Common.{◌≤◌, length, take}
use Rattle.std.specs.Io.KnownBytes.{Appends}
use Rattle.byte_text.proofs.writing.put_rest.Given as goal

abbrev pub invariant-writes : goal.invariant-writes
invariant-writes g l = (l.sent ≤ length l.bytes) × Appends (g.W.Write.contents l.fn.writer) (g.W.Write.contents l.writer) (take l.sent l.bytes)
