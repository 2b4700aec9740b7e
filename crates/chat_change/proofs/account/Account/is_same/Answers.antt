use Rattle.std.proofs.Common.{◌≡◌, ◌∙◌, sym, ap}
use Rattle.std.specs.Ordering.{is_eq}
use Rattle.byte_text.specs.Order.{text_cmp}
use Rattle.byte_text.proofs.CallerLemmas.{text_total, text_exact}
use Rattle.chat_change.proofs.OrderLemmas.{equal_is_one}
use Rattle.chat_change.proofs.account.Account.is_same.Goals as goal

pub returns : goal.returns
returns c =
    let same : c.is_eq.result ≡ is_eq (text_cmp c.args.self.now c.args.other.now) = c.is_eq.ensures ∙ ap is_eq c.order.ensures in
    let one = equal_is_one text_cmp text_total text_exact c.args.self.now c.args.other.now in
    (λ e. one.0 (sym same ∙ e), λ e. same ∙ one.1 e)
