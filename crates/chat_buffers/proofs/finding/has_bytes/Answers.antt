use Rattle.std.proofs.Common.{◌∙◌, sym}
use Rattle.std.proofs.lemmas.Slice.Eq.{bytes_eq-Decides}
use Rattle.chat_change.proofs.CallerLemmas.{id_total, id_exact}
use Rattle.chat_buffers.proofs.FindingLemmas.{is_test}
use Rattle.chat_buffers.proofs.finding.has_bytes.Goals as goal

pub returns : goal.returns
returns c =
    let bytes = c.args.bytes.now in
    let own = c.as_bytes.result.now in
    is_test id_total id_exact c.eq.result bytes c.args.id.now
    (λ e. sym ((bytes_eq-Decides own bytes).0 (sym c.eq.ensures ∙ e)) ∙ c.as_bytes.ensures.value)
    (λ same. c.eq.ensures ∙ (bytes_eq-Decides own bytes).1 (c.as_bytes.ensures.value ∙ sym same))
