use Rattle.std.proofs.Common.{◌≡◌, ◌∙◌, ap, map, subst, sym, take}
use Rattle.std.proofs.lemmas.List.{length-map}
use Rattle.std.specs.Prelude.{IfOk}
use Rattle.std.specs.Map.Iter.{deref}
use Rattle.chat_history.specs.Visible.{records_in}
use Rattle.chat_query.specs.Page.{last}
use Rattle.chat_page.proofs.AnswerLemmas.{between_is, turns, goes_on}
use Rattle.chat_page.proofs.pager.Pager.between.Goals as goal

pub returns-then-is_empty : goal.returns-then-is_empty
returns-then-is_empty c p q e f =
    let records = (records_in c.args.self.now.state.now.history c.args.self.now.buffer) in
    subst (λ l. IfOk c.last_between.result (λ page. map deref page.items ≡ l))
    (ap (last c.args.self.now.limit) (between_is _ _ q p (c.over-then-is_empty.ensures q f) (c.under-then-is_empty.ensures p e) records)
    ∙ turns c.args.self.now.limit _ _ _ _ c.is_empty.result (c.in_ok-rising.ensures ∙ ap (take c.args.self.now.limit) (between_is _ _ p q (c.over.ensures p e) (c.under.ensures q f) records))
    (c.in_ok-rising.rising.ok.0 ∙ sym (length-map c.in_ok-rising.rising.items deref)) c.is_empty.ensures c.if-is_empty.true)
    c.last_between.ensures

pub returns : goal.returns
returns c p q e f =
    let records = (records_in c.args.self.now.state.now.history c.args.self.now.buffer) in
    goes_on c.args.self.now.limit _ _ _ _ c.is_empty.result (c.in_ok-rising.ensures ∙ ap (take c.args.self.now.limit) (between_is _ _ p q (c.over.ensures p e) (c.under.ensures q f) records))
    (c.in_ok-rising.rising.ok.0 ∙ sym (length-map c.in_ok-rising.rising.items deref)) c.is_empty.ensures c.if-is_empty.false
