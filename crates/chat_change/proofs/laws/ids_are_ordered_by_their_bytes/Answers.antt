use Rattle.std.proofs.Common.{refl}
use Rattle.byte_text.specs.Order.{text_cmp}
use Rattle.byte_text.proofs.CallerLemmas.{text_total, text_exact}
use Rattle.chat_change.proofs.OrderLemmas.{equal_is_one}
use Rattle.chat_change.proofs.laws.ids_are_ordered_by_their_bytes.Goals as goal

pub returns : goal.returns
returns c = record {
  total = text_total;
  exact = text_exact;
  equality = equal_is_one text_cmp text_total text_exact;
  greatest_first = λ a b. refl;
}
