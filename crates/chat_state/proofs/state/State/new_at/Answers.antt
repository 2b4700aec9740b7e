use Rattle.std.proofs.Common.{sym, subst, ap, ◌∙◌}
use Rattle.chat_state.specs.State.{value_of, IsSound}
use Rattle.chat_state.proofs.StateLemmas.{empty_seen, empty_sound}
use Rattle.chat_state.proofs.state.State.new_at.Goals as goal

pub invariant_of-result : goal.invariant_of-result
invariant_of-result c = subst (λ s. IsSound s c.args.front) (sym c.new.ensures) (empty_sound c.args.front)

pub returns : goal.returns
returns c = ap (λ s. value_of s c.args.front) c.new.ensures ∙ empty_seen c.args.front
