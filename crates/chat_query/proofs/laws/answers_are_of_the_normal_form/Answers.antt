use Rattle.chat_history.specs.History.{norm, changes_of}
use Rattle.chat_history.proofs.CallerLemmas.{norm-changes_of}
use Rattle.chat_query.proofs.AnswerLemmas.{same_answer}
use Rattle.chat_query.proofs.laws.answers_are_of_the_normal_form.Goals as goal

pub returns : goal.returns
returns c = record {
  same = λ a b facts line e. same_answer a b e facts line;
  normal = λ a facts line. same_answer (changes_of (norm a)) a (norm-changes_of a) facts line;
}
