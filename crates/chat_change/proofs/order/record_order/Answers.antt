use Rattle.std.proofs.Common.{sym, ◌∙◌, ap}
use Rattle.std.specs.Ordering.{ordering_then}
use Rattle.chat_change.specs.Order.{message_cmp, greatest_tags_first}
use Rattle.chat_change.proofs.OrderLemmas.{record_cmp-parts}
use Rattle.chat_change.proofs.order.record_order.Goals as goal

pub returns-in-Equal : goal.returns-in-Equal
returns-in-Equal c =
    let r = c.args.one.now in
    let s = c.args.other.now in
    let rest = ordering_then (greatest_tags_first r s) (message_cmp r.message s.message) in
    c.tie_order.ensures
    ∙ ap (λ o. ordering_then o rest) (sym c.in-Equal.is ∙ c.moment_order.ensures)
    ∙ sym (record_cmp-parts r s c.requires.same_buffer c.requires.same_id)
