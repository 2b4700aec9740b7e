use Rattle.std.proofs.Common.{map, take}
use Rattle.std.specs.Io.KnownBytes.{Appends}
use Rattle.chat_query.specs.Batch.{records_text}
use Rattle.chat_query.proofs.batch.put_records.Given as goal

abbrev pub invariant-loop-record : goal.invariant-loop-record
invariant-loop-record g l = Appends (g.W.Write.contents l.fn.writer) (g.W.Write.contents l.writer) (records_text l.caps l.reference (map (λ r. r.now) (take l.record-index l.records)))
