use Rattle.chat_change.specs.Order.{buffer_cmp}
use Rattle.chat_change.proofs.OrderLemmas.{buffer_total, buffer_exact, buffer_cmp-names, equal_is_one}
use Rattle.chat_change.proofs.laws.buffers_are_ordered_by_their_names.Goals as goal

pub returns : goal.returns
returns c = record {
  by_names = buffer_cmp-names;
  total = buffer_total;
  exact = buffer_exact;
  equality = equal_is_one buffer_cmp buffer_total buffer_exact;
}
