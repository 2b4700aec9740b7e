use Rattle.chat_change.proofs.OrderLemmas.{record_cmp-goes_before, goes_before-irreflexive, goes_before-transitive, goes_before-either}
use Rattle.chat_change.proofs.laws.records_of_a_message_are_ordered.Goals as goal

pub returns : goal.returns
returns c = record {
  comparison = record_cmp-goes_before;
  irreflexive = goes_before-irreflexive;
  transitive = goes_before-transitive;
  total = goes_before-either;
}
