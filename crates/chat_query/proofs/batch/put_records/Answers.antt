use Rattle.std.proofs.Common.{subst}
use Rattle.std.specs.Io.KnownBytes.{Appends}
use Rattle.std.proofs.KnownBytes.{Appends-trans}
use Rattle.byte_text.proofs.CallerLemmas.{prefix_of_first, prefix_of_second, writes_failed, prefix_same, texts_at, texts_through}
use Rattle.chat_query.specs.Message.{record_text}
use Rattle.chat_query.proofs.batch.put_records.Goals as goal

pub returns-in_err-put_record : goal.returns-in_err-put_record
returns-in_err-put_record g c =
    writes_failed _ _ _ _ c.from_residual.result c.from_residual.ensures.1
    (prefix_same _ _ _ _ (texts_at (λ r. r.now) (record_text c.args.caps c.args.reference.now) c.args.records.now c.loop-record.record-index c.record-item.result c.record-item.is c.loop-record-test.true)
    (prefix_of_second _ _ _ _ _ c.loop-record.invariant (prefix_of_first _ _ _ _ c.in_err-put_record.ensures)))

pub loop-record-preserved : goal.loop-record-preserved
loop-record-preserved g c =
    subst (λ l. Appends (g.W.Write.contents c.args.writer.now) (g.W.Write.contents c.put_record.new.writer) l)
    (texts_through (λ r. r.now) (record_text c.args.caps c.args.reference.now) c.args.records.now c.loop-record.record-index c.record-item.result c.record-item.is c.loop-record-test.true)
    (Appends-trans _ _ _ _ _ c.loop-record.invariant c.in_ok-put_record.ensures)
