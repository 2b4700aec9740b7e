use Rattle.std.proofs.Common.{◌∙◌, ap, subst}
use Rattle.chat_query.specs.Answers.{Answer, query_answer, query_refusal, query_or_refusal}
use Rattle.chat_batch.specs.WritesAnswer.{WritesAnswer}
use Rattle.chat_batch.proofs.history.answer_line.Goals as goal

pub returns-in-Ok-clause-text : goal.returns-in-Ok-clause-text
returns-in-Ok-clause-text g c changes h =
    subst (λ (a : Answer). WritesAnswer g.W.Write.contents c.args.writer.now c.answer_query-answered.new.writer c.answer_query-answered.result a)
    ((λ i. query_answer changes c.args.facts.now (c.parameters.ensures i) c.in-Ok.query) ∙ ap (query_or_refusal changes c.args.facts.now c.args.line.now.parameters) c.in-Ok.ensures)
    (c.answer_query-answered.ensures.text changes h)

pub returns-in-Err-clause-text : goal.returns-in-Err-clause-text
returns-in-Err-clause-text g c changes h =
    subst (λ (a : Answer). WritesAnswer g.W.Write.contents c.args.writer.now c.refuse_query.new.writer c.refuse_query.result a)
    ((λ i. query_refusal c.args.facts.now (c.parameters-in-Err.ensures i) c.in-Err.fault) ∙ ap (query_or_refusal changes c.args.facts.now c.args.line.now.parameters) c.in-Err.ensures)
    c.refuse_query.ensures.text
