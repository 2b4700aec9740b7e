use Rattle.std.proofs.Common.{◌≡◌, true, sym, ◌∙◌, subst}
use Rattle.std.specs.Cmp.Lexicographic.{bytes_decides}
use Rattle.std.proofs.lemmas.Bool.{false≢true}
use Rattle.chat_change.specs.Words.{is_name, is_target, lower_case_of}
use Rattle.change_lines.specs.BufferFields.{value_of}
use Rattle.change_lines.proofs.ReadBackLemmas.{lawful_names}
use Rattle.change_lines.proofs.named_buffer.is_known.Goals as goal
use Rattle.change_lines.proofs.named_buffer.is_known.Goals.{then-eq, else-eq}

pub returns-then-eq-2-clause-lawful : goal.returns-then-eq-2-clause-lawful
returns-then-eq-2-clause-lawful c h =
    let target = (bytes_decides c.target.result.now c.args.b.target.now).0 (sym c.eq-then-eq-2.ensures ∙ h) in
    elim c.if-eq.branch [
      | then-eq w ↦
          let account = (bytes_decides c.account.result.now c.args.b.account.now).0 (sym c.eq.ensures ∙ w.if-eq.true) in
          let network = (bytes_decides w.network.result.now c.args.b.network.now).0 (sym w.eq-then-eq.ensures ∙ (sym w.value-is ∙ c.if-eq-2.true)) in
          lawful_names (value_of c.args.b)
          (subst (λ t. is_name t ≡ true) account c.account.ensures.lawful)
          (subst (λ t. is_name t ≡ true) network w.network.ensures.lawful)
          (subst (λ t. is_target t ≡ true) target c.target.ensures.lawful)
          (subst (λ t. lower_case_of t ≡ t) target c.target.ensures.folded)
      | else-eq w ↦ absurd (false≢true (sym w.if-eq.false ∙ (sym w.value-is ∙ c.if-eq-2.true)))
    ]
