use Rattle.chat_query.proofs.OwnAnswerLemmas.{own_answer, agreeing_answer, same_own_answer}
use Rattle.chat_query.proofs.laws.answers_are_of_the_own_past.Goals as goal

pub returns : goal.returns
returns c = record {
  alone = own_answer;
  normal = λ a b facts line e. agreeing_answer a b facts e line;
  members = λ a b facts line same. same_own_answer a b facts same line;
}
