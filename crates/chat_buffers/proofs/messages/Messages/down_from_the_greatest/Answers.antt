use Rattle.std.proofs.Common.{sym, ap, subst, true, not, nat_lt}
use Rattle.std.specs.Ordering.{flip_args}
use Rattle.chat_change.specs.Record.{Record}
use Rattle.chat_history.specs.Visible.{by_spot}
use Rattle.chat_buffers.specs.Messages.{Messages}
use Rattle.chat_buffers.specs.Kept.{IsKept}
use Rattle.chat_buffers.proofs.KeptRecordLemmas.{kept_alike, none_past}
use Rattle.chat_buffers.proofs.messages.Messages.down_from_the_greatest.Goals as goal

pub returns : goal.returns
returns c =
    let none = none_past c.self.inside.by_spot c.self.inside.by_id c.self.invariant c.args.at c.requires in
    kept_alike (flip_args by_spot) (λ (r : Record). true) c.args.self.now c.down_from.result (λ r. not (nat_lt c.args.at r.at))
    (λ r held. ap not (sym (none r (subst (λ (ms : Messages). IsKept ms r) (sym c.self.view_is) held)))) c.down_from.ensures
