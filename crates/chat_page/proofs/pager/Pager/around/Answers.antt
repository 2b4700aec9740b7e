use Rattle.std.proofs.Common.{◌∙◌, ◌++◌, ◌-◌, ◌/◌, ap, map, take}
use Rattle.std.specs.Map.Iter.{deref}
use Rattle.std.proofs.lemmas.List.{map-append}
use Rattle.chat_history.specs.Visible.{records_in}
use Rattle.chat_query.specs.Page.{last}
use Rattle.chat_page.proofs.AnswerLemmas.{before_is, not_before_is}
use Rattle.chat_page.proofs.pager.Pager.around.Goals as goal

pub returns : goal.returns
returns c p e =
    let records = (records_in c.args.self.now.state.now.history c.args.self.now.buffer) in
    let lower = c.in_ok-page.ensures ∙ ap (last (c.args.self.now.limit / 2)) (before_is _ p (c.under-cut.ensures p e) records) in
    let upper = c.in_ok-rest.ensures ∙ ap (take (c.args.self.now.limit - c.args.self.now.limit / 2)) (not_before_is _ p (c.under-cut.ensures p e) records) in
    ap (map deref) c.in_ok-append.ensures.items ∙ map-append deref c.in_ok-page.page.items c.in_ok-rest.rest.items
    ∙ (λ i. lower i ++ upper i)
