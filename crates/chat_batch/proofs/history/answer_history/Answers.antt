use Rattle.std.proofs.Common.{sym, subst}
use Rattle.std.proofs.lemmas.Bool.{cond-true, cond-false}
use Rattle.chat_query.specs.Answers.{Answer}
use Rattle.chat_batch.specs.WritesAnswer.{WritesAnswer}
use Rattle.chat_batch.proofs.history.answer_history.Goals as goal

pub returns-then-facts-clause-text : goal.returns-then-facts-clause-text
returns-then-facts-clause-text g c changes h =
    subst (λ (a : Answer). WritesAnswer g.W.Write.contents c.args.writer.now c.answer_line.new.writer c.answer_line.result a) (sym (cond-true _ _ _ c.if-facts.true))
    (c.answer_line.ensures.text changes h)

pub returns-else-facts-clause-text : goal.returns-else-facts-clause-text
returns-else-facts-clause-text g c changes h =
    subst (λ (a : Answer). WritesAnswer g.W.Write.contents c.args.writer.now c.write_incapable.new.writer c.write_incapable.result a) (sym (cond-false _ _ _ c.if-facts.false))
    c.write_incapable.ensures.text
