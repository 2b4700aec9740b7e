use Rattle.chat_query.proofs.OwnPastLemmas.{own_page, agreeing_page, same_own_page}
use Rattle.chat_query.proofs.laws.pages_are_of_the_own_past.Goals as goal

pub returns : goal.returns
returns c = record {
  alone = λ changes scope query. own_page scope changes query;
  normal = λ a b scope query e. agreeing_page scope a b e query;
  members = λ a b scope query same. same_own_page scope a b same query;
}
