use Rattle.std.proofs.Common.{sym, ap, ◌∙◌, subst₂}
use Rattle.std.specs.FinMap.{from_entries}
use Rattle.chat_change.specs.Order.{id_cmp}
use Rattle.chat_buffers.specs.Agreement.{Agree, ById}
use Rattle.chat_buffers.proofs.messages.MessagesClone.clone.Goals as goal

pub invariant_of-result : goal.invariant_of-result
invariant_of-result c = subst₂ Agree (sym c.in_ok-by_spot.ensures.cases) (sym c.in_ok-by_id.ensures.cases) c.self.invariant

pub returns : goal.returns
returns c = record { cases = ap (λ (l : ById). from_entries {R = id_cmp} l) c.in_ok-by_id.ensures.cases ∙ c.self.view_is }
