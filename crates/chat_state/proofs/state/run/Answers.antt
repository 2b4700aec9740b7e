use Rattle.std.proofs.Common.{◌≡◌, ◌++◌, take, ap, subst, ◌∙◌, Vec}
use Rattle.chat_change.specs.declared.change.Change.{Change}
use Rattle.std.specs.declared.alloc.Global.{Global}
use Rattle.chat_state.specs.declared.faults.StateFault.TheVariants.{Exhausted}
use Rattle.chat_history.specs.StateValue.{state_after, IsStoppedAt}
use Rattle.chat_history.specs.Deltas.{all_changes}
use Rattle.chat_state.proofs.TakeLemmas.{stopped_within}
use Rattle.chat_state.proofs.state.run.Goals as goal

pub returns-in-Err-clause-refused : goal.returns-in-Err-clause-refused
returns-in-Err-clause-refused c few =
    let fault = c.in-Err.fault in
    let items = c.deref.ensures.value ∙ ap (λ (d : Vec Change Global). d.items) c.delta-item.is in
    let exhausted = subst (λ mid. IsStoppedAt c.take.new.self mid fault.taken (fault.cause ≡ Exhausted)) items c.in-Err.ensures.exhausted in
    let now = c.in-Err.ensures.held_err 0 (all_changes (take c.loop-delta.delta-index c.args.deltas.now)) c.loop-delta.invariant.held ∙ ap (λ cs. state_after 0 (all_changes (take c.loop-delta.delta-index c.args.deltas.now) ++ take fault.taken cs)) items in
    stopped_within c.args.deltas.now c.loop-delta.delta-index c.delta-item.result c.loop-delta-test.true few c.loop-delta.taken fault.taken c.saturating_add.result c.loop-delta.invariant.count c.saturating_add.ensures c.take.new.self
    now (fault.cause ≡ Exhausted) exhausted
