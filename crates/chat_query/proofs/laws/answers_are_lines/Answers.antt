use Rattle.chat_query.proofs.AnswerLinesLemmas.{read_answer_lines}
use Rattle.chat_query.proofs.laws.answers_are_lines.Goals as goal

pub returns : goal.returns
returns c = read_answer_lines
