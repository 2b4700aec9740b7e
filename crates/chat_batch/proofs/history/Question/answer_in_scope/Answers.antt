use Rattle.std.proofs.Common.{◌≡◌, ◌∙◌, ap, sym, subst, map, None}
use Rattle.chat_query.specs.Page.{page}
use Rattle.chat_query.specs.Answers.{Answer, unknown_message, page_or_unknown}
use Rattle.chat_batch.specs.WritesAnswer.{WritesAnswer}
use Rattle.chat_batch.proofs.history.Question.answer_in_scope.Goals as goal

pub returns-in-Err-UnknownMessage-clause-text : goal.returns-in-Err-UnknownMessage-clause-text
returns-in-Err-UnknownMessage-clause-text g c changes h =
    let none : page changes c.args.scope.now c.args.query.now ≡ None = rw c.in-Err-UnknownMessage.field-0-is at (c.in-Err-UnknownMessage.ensures changes h) in
    subst (λ (a : Answer). WritesAnswer g.W.Write.contents c.args.writer.now c.refuse_selector.new.writer c.refuse_selector.result a)
    ((λ i. unknown_message c.args.self.now.facts.now (c.word_of-word.ensures i) (c.given_of-given.ensures i))
    ∙ ap (page_or_unknown c.args.self.now.facts.now (map (λ p. p.now) c.args.self.now.parameters.now)) (sym none)) c.refuse_selector.ensures.text
