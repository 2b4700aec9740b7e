use Rattle.std.proofs.Common.{ap, subst}
use Rattle.chat_query.specs.Answers.{Answer, refusal_about}
use Rattle.chat_batch.specs.WritesAnswer.{WritesAnswer}
use Rattle.chat_batch.proofs.refusal.refuse_query.Goals as goal

pub returns-in-Some-clause-text : goal.returns-in-Some-clause-text
returns-in-Some-clause-text g c =
    subst (λ (a : Answer). WritesAnswer g.W.Write.contents c.args.writer.now c.refuse_subcommand.new.writer c.refuse_subcommand.result a)
    (ap (λ o. refusal_about c.args.facts.now o c.args.fault) c.in-Some.ensures) c.refuse_subcommand.ensures.text

pub returns-in-None-clause-text : goal.returns-in-None-clause-text
returns-in-None-clause-text g c =
    subst (λ (a : Answer). WritesAnswer g.W.Write.contents c.args.writer.now c.refuse_bare.new.writer c.refuse_bare.result a)
    (ap (λ o. refusal_about c.args.facts.now o c.args.fault) c.in-None.ensures) c.refuse_bare.ensures.text
