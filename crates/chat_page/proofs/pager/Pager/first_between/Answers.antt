use Rattle.std.proofs.Common.{◌≡◌, ◌∙◌, ap, map, not, rules, subst, take}
use Rattle.std.specs.Prelude.{IfOk}
use Rattle.std.specs.Map.Iter.{deref}
use Rattle.std.proofs.lemmas.Iterator.{YieldsList-from_take}
use Rattle.std.proofs.lemmas.Iterator.Search.{YieldsList-from_take_while}
use Rattle.std.proofs.lemmas.Iterator.Consumers.{YieldsList-from_first, map_from_collect, YieldsList-at}
use Rattle.chat_history.specs.Cut.{after as after_cut, is_after as is_after_cut}
use Rattle.chat_history.specs.Visible.{records_in}
use Rattle.chat_history.proofs.CallerLemmas.{records_sorted}
use Rattle.chat_page.proofs.CutLemmas.{up_between}
use Rattle.chat_page.proofs.pager.Pager.first_between.Goals as goal

pub returns : goal.returns
returns c =
    subst (λ l. IfOk c.collect.result (λ page. map deref page.items ≡ take c.args.n l))
    (up_between c.args.low.now c.args.high.now (records_in c.args.self.now.state.now.history c.args.self.now.buffer) (records_sorted c.args.self.now.state.now.history c.args.self.now.buffer))
    (map_from_collect c.collect.result c.collect.ensures.ran
    (YieldsList-from_take c.args.n (YieldsList-at c.take.ensures.source
    (YieldsList-from_take_while _ (λ r. not (is_after_cut c.args.high.now r))
    (YieldsList-at c.take_while.ensures.source (YieldsList-from_first deref (λ s. s) (after_cut c.args.low.now (records_in c.args.self.now.state.now.history c.args.self.now.buffer)) (c.up.ensures ∙ ap (λ cut. after_cut cut (records_in c.args.self.now.state.now.history c.args.self.now.buffer)) c.copy_of.ensures)))
    c.take_while.ensures.closure c.take_while.ensures.done (λ x r q k. search rules))) c.take.ensures.count))
