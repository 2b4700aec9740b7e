use Rattle.std.proofs.Common.{◌≡◌, ◌∙◌, sym, ap}
use Rattle.std.proofs.lemmas.Bool.{false≢true}
use Rattle.std.proofs.lemmas.Slice.Eq.{bytes_eq-Decides}
use Rattle.chat_change.specs.Buffer.{Buffer, buffer_of}
use Rattle.chat_change.proofs.CallerLemmas.{buffer_total, buffer_exact}
use Rattle.chat_buffers.proofs.FindingLemmas.{is_test}
use Rattle.chat_buffers.proofs.finding.has_names.Goals as goal
use Rattle.chat_buffers.proofs.finding.has_names.Goals.{then-eq, else-eq}

pub returns-then-eq-2 : goal.returns-then-eq-2
returns-then-eq-2 c =
    let b = c.args.buffer.now in
    let names = buffer_of c.args.account.now c.args.network.now c.args.target.now in
    elim c.if-eq.branch [
      | then-eq w ↦
          let account : b.account ≡ names.account = sym c.account.ensures.value ∙ (bytes_eq-Decides c.account.result.now c.args.account.now).0 (sym c.eq.ensures ∙ w.if-eq.true) in
          let network : b.network ≡ names.network = sym w.network.ensures.value ∙ (bytes_eq-Decides w.network.result.now c.args.network.now).0 (sym w.eq-then-eq.ensures ∙ sym w.value-is ∙ c.if-eq-2.true) in
          is_test buffer_total buffer_exact c.eq_ignore_ascii_case.result names b
          (λ e.
          let target : b.target ≡ names.target = sym c.target.ensures.value ∙ sym c.target.ensures.folded ∙ c.eq_ignore_ascii_case.ensures.test.0 e in
          λ i. record { account = sym account i; network = sym network i; target = sym target i })
          (λ same. c.eq_ignore_ascii_case.ensures.test.1
          (c.target.ensures.folded ∙ c.target.ensures.value ∙ sym (ap (λ (d : Buffer). d.target) same)))
      | else-eq w ↦ absurd (false≢true (sym w.if-eq.false ∙ sym w.value-is ∙ c.if-eq-2.true))
    ]

pub returns-else-eq-2 : goal.returns-else-eq-2
returns-else-eq-2 c =
    let b = c.args.buffer.now in
    let names = buffer_of c.args.account.now c.args.network.now c.args.target.now in
    is_test buffer_total buffer_exact c.if-eq.value names b
    (λ e. absurd (false≢true (sym c.if-eq-2.false ∙ e)))
    (λ same.
    elim c.if-eq.branch [
      | then-eq w ↦
          w.value-is ∙ w.eq-then-eq.ensures ∙ (bytes_eq-Decides w.network.result.now c.args.network.now).1
          (w.network.ensures.value ∙ sym (ap (λ (d : Buffer). d.network) same))
      | else-eq w ↦
          absurd (false≢true (sym w.if-eq.false ∙ c.eq.ensures ∙ (bytes_eq-Decides c.account.result.now c.args.account.now).1
          (c.account.ensures.value ∙ sym (ap (λ (d : Buffer). d.account) same))))
    ])
