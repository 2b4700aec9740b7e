use Rattle.std.proofs.Common.{rules, ◌≡◌, ◌↔◌, IsTrue}
use Rattle.std.specs.declared.cmp.Ordering.TheVariants.{Less}
use Rattle.chat_change.specs.Order.{record_cmp}
use Rattle.chat_change.proofs.OrderLemmas.{record_cmp-goes_before}
use Rattle.chat_change.proofs.order.goes_before.Goals as goal

pub returns-clause-kept : goal.returns-clause-kept
returns-clause-kept c =
    let less : IsTrue c.is_lt.result ↔ (record_cmp c.args.one.now c.args.other.now ≡ Less) = search rules in
    let kept = record_cmp-goes_before c.args.one.now c.args.other.now c.requires.same_buffer c.requires.same_id in
    (λ b. kept.0 (less.0 b), λ b. less.1 (kept.1 b))
