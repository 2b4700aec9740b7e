use Rattle.chat_query.specs.Answers.{answer_of}
use Rattle.chat_batch.proofs.AnswerLemmas.{written_text, written_answered, is_unwritten}
use Rattle.chat_batch.proofs.answers.answer.Goals as goal

pub returns-clause-text : goal.returns-clause-text
returns-clause-text g c changes h =
    written_text g.W.Write.contents c.args.writer.now c.answer_command.new.writer c.answer_command.result (answer_of changes c.args.facts.now c.args.line.now)
    (c.answer_command.ensures.text changes h) c.answer_command.ensures.memory

pub returns-clause-answered : goal.returns-clause-answered
returns-clause-answered g c changes h =
    written_answered g.W.Write.contents c.args.writer.now c.answer_command.new.writer c.answer_command.result (answer_of changes c.args.facts.now c.args.line.now)
    (c.answer_command.ensures.text changes h)

pub returns-clause-memory : goal.returns-clause-memory
returns-clause-memory g c e = is_unwritten c.args.writer.now c.answer_command.new.writer c.answer_command.result c.answer_command.ensures.memory e
