use Rattle.std.proofs.Common.{◌++◌, ◌∷◌, [], ap, subst, ◌∙◌}
use Rattle.chat_history.specs.StateValue.{HasTaken}
use Rattle.chat_history.specs.History.{norm, changes_of}
use Rattle.chat_state.proofs.TakeLemmas.{taken_more, has_taken_more}
use Rattle.chat_state.proofs.state.State.take.Goals as goal

pub loop-i-preserved : goal.loop-i-preserved
loop-i-preserved c = record {
  history =
      taken_more c.args.self.now.history c.loop-i.self.history c.absorb_copy.new.self.history c.args.changes.now c.loop-i.i c.index-changes-i.result c.loop-i-test.true c.loop-i.invariant.history
      (c.in_default.ensures.ok ∙ ap (λ d. norm (changes_of c.loop-i.self.history ++ d ∷ [])) (c.of.ensures ∙ c.index-changes-i.is));
  held =
      has_taken_more c.args.self.now c.loop-i.self c.absorb_copy.new.self c.args.changes.now c.loop-i.i c.index-changes-i.result c.loop-i-test.true c.loop-i.invariant.held
      (subst (λ d. HasTaken c.loop-i.self (d ∷ []) c.absorb_copy.new.self) (c.of.ensures ∙ c.index-changes-i.is) c.in_default.ensures.held);
}
