use Rattle.std.proofs.Common.{rules, ◌≡◌, ◌≢◌, ◌∙◌, sym, ap, subst, Ok, Err, IsTrue}
use Rattle.std.specs.Prelude.{◌↔◌}
use Rattle.std.specs.Result.{IfOk}
use Rattle.chat_history.specs.StateValue.{StateValue}
use Rattle.chat_state.specs.declared.faults.StateFault.TheVariants as fault
use Rattle.chat_state.proofs.state.State.absorb_copy.Goals as goal

pub returns-in_err-absorb_new-clause-exhausted : goal.returns-in_err-absorb_new-clause-exhausted
returns-in_err-absorb_new-clause-exhausted c =
    let no_memory : c.from_residual.result ≡ Err fault.NoMemory = search rules in (
      λ e. cc (sym no_memory ∙ e),
      λ past. cc (c.in_err-absorb_new.ensures.last past.0),
    )

pub returns-then-branch-clause-exhausted : goal.returns-then-branch-clause-exhausted
returns-then-branch-clause-exhausted c = (
  λ e. cc e,
  λ past. cc (ap Ok (sym c.if-branch.true) ∙ c.in_ok-absorb_new.ensures.last past.0),
)

pub returns-clause-changed : goal.returns-clause-changed
returns-clause-changed c =
    subst (λ (s : StateValue). IfOk c.absorb_by_form-2.result (λ b. IsTrue b ↔ (c.absorb_by_form-2.new.self.history ≢ s.history)))
    (c.in_ok-absorb_new.ensures.other (ap Ok c.if-branch.false)) c.absorb_by_form-2.ensures.changed
