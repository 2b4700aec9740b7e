use Rattle.std.proofs.Common.{subst}
use Rattle.chat_query.specs.Answers.{Answer}
use Rattle.chat_batch.specs.WritesAnswer.{WritesAnswer}
use Rattle.chat_batch.proofs.AnswerLemmas.{bare_refused}
use Rattle.chat_batch.proofs.refusal.refuse_bare.Goals as goal

pub returns-clause-text : goal.returns-clause-text
returns-clause-text g c =
    subst (λ (a : Answer). WritesAnswer g.W.Write.contents c.args.writer.now c.refuse.new.writer c.refuse.result a)
    (bare_refused c.args.facts.now c.args.fault c.code_of.result.now c.reason_of.result.now c.code_of.ensures c.reason_of.ensures)
    c.refuse.ensures.text
