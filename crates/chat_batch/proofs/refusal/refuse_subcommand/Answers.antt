use Rattle.std.proofs.Common.{◌≡◌, ◌∙◌, subst}
use Rattle.chat_query.specs.Answers.{subcommand_of, Answer}
use Rattle.chat_batch.specs.WritesAnswer.{WritesAnswer}
use Rattle.chat_batch.proofs.AnswerLemmas.{subcommand_refused}
use Rattle.chat_batch.proofs.refusal.refuse_subcommand.Goals as goal

pub returns-clause-text : goal.returns-clause-text
returns-clause-text g c =
    let word : c.as_bytes.result.now ≡ subcommand_of c.args.word.now = c.as_bytes.ensures ∙ c.in-Ok.ensures in
    subst (λ (a : Answer). WritesAnswer g.W.Write.contents c.args.writer.now c.refuse.new.writer c.refuse.result a)
    (subcommand_refused c.args.facts.now c.args.word.now c.args.fault c.code_of.result.now c.as_bytes.result.now c.reason_of.result.now c.code_of.ensures word c.reason_of.ensures)
    c.refuse.ensures.text
