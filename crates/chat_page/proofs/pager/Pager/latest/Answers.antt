use Rattle.std.proofs.Common.{◌≡◌, subst, map}
use Rattle.std.specs.Prelude.{IfOk}
use Rattle.std.specs.Map.Iter.{deref}
use Rattle.chat_history.specs.Visible.{records_in}
use Rattle.chat_query.specs.Page.{last}
use Rattle.chat_page.proofs.AnswerLemmas.{all_between}
use Rattle.chat_page.proofs.pager.Pager.latest.Goals as goal

pub returns : goal.returns
returns c =
    subst (λ l. IfOk c.last_between.result (λ page. map deref page.items ≡ last c.args.self.now.limit l))
    (all_between (records_in c.args.self.now.state.now.history c.args.self.now.buffer)) c.last_between.ensures
