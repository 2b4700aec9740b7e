use Rattle.chat_query.proofs.ToldLemmas.{live_told, record_told}
use Rattle.chat_query.proofs.laws.what_tags_tell.Goals as goal

pub returns : goal.returns
returns c = record {
  page = λ caps n r own h is has. record_told caps r own has is n h;
  live = λ caps r own is has. live_told caps r own has is;
}
