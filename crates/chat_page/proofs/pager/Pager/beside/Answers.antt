use Rattle.std.proofs.Common.{◌≡◌, sym, subst, map}
use Rattle.std.specs.Prelude.{IfOk}
use Rattle.std.specs.Map.Iter.{deref}
use Rattle.chat_history.specs.Visible.{records_in}
use Rattle.chat_page.specs.Answer.{side_cut}
use Rattle.chat_page.proofs.pager.Pager.beside.Goals as goal

pub returns-in-Around : goal.returns-in-Around
returns-in-Around c p e =
    subst (λ s. IfOk c.around.result (λ page. map deref page.items ≡ side_cut s c.args.self.now.limit (records_in c.args.self.now.state.now.history c.args.self.now.buffer) p)) (sym c.in-Around.is) (c.around.ensures p e)
