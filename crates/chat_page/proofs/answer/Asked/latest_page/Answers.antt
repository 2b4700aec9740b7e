use Rattle.std.proofs.Common.{ap, sym, Some}
use Rattle.chat_query.specs.Page.{of_records}
use Rattle.chat_page.proofs.answer.Asked.latest_page.Goals as goal

pub returns : goal.returns
returns c =
    rw (← c.in_ok-pager.ensures.state, ← c.in_ok-pager.ensures.buffer, ← c.in_ok-pager.ensures.limit)
    (ap (λ l. Some (of_records l)) (sym c.in_ok-latest.ensures))
