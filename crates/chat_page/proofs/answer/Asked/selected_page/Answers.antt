use Rattle.std.proofs.Common.{◌≡◌, ◌∙◌, ap}
use Rattle.chat_history.specs.History.{norm}
use Rattle.chat_history.specs.Visible.{records_in}
use Rattle.chat_query.specs.Page.{point_of}
use Rattle.chat_page.specs.Answer.{side_cut}
use Rattle.chat_page.specs.Point.{value_of}
use Rattle.chat_page.proofs.AnswerLemmas.{at_point}
use Rattle.chat_page.proofs.answer.Asked.selected_page.Goals as goal

pub returns : goal.returns
returns c changes h =
    let pager = c.in_ok-pager.pager in
    let g : pager.state.now.history ≡ norm changes = ap (λ s. s.history) c.in_ok-pager.ensures.state ∙ h in
    rw (← c.in_ok-pager.ensures.buffer, ← c.in_ok-pager.ensures.limit)
    (at_point (side_cut c.args.side pager.limit (records_in (norm changes) pager.buffer)) (point_of (norm changes) pager.buffer c.args.selector.now) (value_of c.in_ok-point.point) _
    (c.in_ok-point.ensures.point changes g) c.in_ok-point.ensures.some
    (λ p e. c.in_ok-beside.ensures p e ∙ ap (λ x. side_cut c.args.side pager.limit (records_in x pager.buffer) p) g))
