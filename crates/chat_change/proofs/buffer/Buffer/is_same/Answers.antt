use Rattle.std.proofs.Common.{◌≡◌, ◌∙◌, sym, ap}
use Rattle.std.specs.Ordering.{is_eq}
use Rattle.chat_change.specs.Order.{buffer_cmp}
use Rattle.chat_change.proofs.OrderLemmas.{buffer_total, buffer_exact, equal_is_one}
use Rattle.chat_change.proofs.buffer.Buffer.is_same.Goals as goal

pub returns : goal.returns
returns c =
    let same : c.is_eq.result ≡ is_eq (buffer_cmp c.args.self.now c.args.other.now) = c.is_eq.ensures ∙ ap is_eq c.order.ensures in
    let one = equal_is_one buffer_cmp buffer_total buffer_exact c.args.self.now c.args.other.now in
    (λ e. one.0 (sym same ∙ e), λ e. same ∙ one.1 e)
