use Rattle.std.proofs.Common.{sym, subst, nat_lt}
use Rattle.chat_history.specs.Visible.{by_spot}
use Rattle.chat_buffers.specs.Messages.{Messages}
use Rattle.chat_buffers.specs.Kept.{IsKept}
use Rattle.chat_buffers.proofs.KeptRecordLemmas.{none_past, none_kept}
use Rattle.chat_buffers.proofs.messages.Messages.past_the_greatest.Goals as goal

pub returns : goal.returns
returns c =
    let none = none_past c.self.inside.by_spot c.self.inside.by_id c.self.invariant c.args.at c.requires in
    none_kept by_spot (λ r. nat_lt c.args.at r.at) c.args.self.now c.empty.result c.empty.ensures
    (λ r held. none r (subst (λ (ms : Messages). IsKept ms r) (sym c.self.view_is) held))
