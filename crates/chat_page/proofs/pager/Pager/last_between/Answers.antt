use Rattle.std.proofs.Common.{◌∙◌, ap, Ok, map, reverse, rules, take}
use Rattle.std.specs.Map.Iter.{deref}
use Rattle.std.proofs.lemmas.Iterator.{YieldsList-from_take}
use Rattle.std.proofs.lemmas.Iterator.Search.{YieldsList-from_take_while}
use Rattle.std.proofs.lemmas.Iterator.Consumers.{YieldsList-from_first, map_from_collect, YieldsList-at}
use Rattle.chat_history.specs.Cut.{before as before_cut, is_after as is_after_cut}
use Rattle.chat_history.specs.Visible.{records_in}
use Rattle.chat_history.proofs.CallerLemmas.{records_sorted}
use Rattle.chat_page.specs.Cuts.{between_cuts}
use Rattle.chat_page.proofs.CutLemmas.{down_between}
use Rattle.chat_page.proofs.LastLemmas.{map_reverse, last_from_end}
use Rattle.chat_page.proofs.pager.Pager.last_between.Goals as goal

pub returns : goal.returns
returns c =
    ap (map deref) c.reverse.ensures.items ∙ map_reverse deref c.in_ok-page.page.items
    ∙ ap reverse (map_from_collect {E = Unit {0}} (Ok c.in_ok-page.page) c.in_ok-page.ensures.ran
    (YieldsList-from_take c.args.n (YieldsList-at c.take.ensures.source
    (YieldsList-from_take_while _ (is_after_cut c.args.low.now)
    (YieldsList-at c.take_while.ensures.source (YieldsList-from_first deref (λ s. s) (reverse (before_cut c.args.high.now (records_in c.args.self.now.state.now.history c.args.self.now.buffer))) (c.down.ensures ∙ ap (λ cut. reverse (before_cut cut (records_in c.args.self.now.state.now.history c.args.self.now.buffer))) c.copy_of.ensures)))
    c.take_while.ensures.closure c.take_while.ensures.done (λ x r q k. search rules))) c.take.ensures.count))
    ∙ ap (λ l. reverse (take c.args.n l)) (down_between c.args.low.now c.args.high.now (records_in c.args.self.now.state.now.history c.args.self.now.buffer) (records_sorted c.args.self.now.state.now.history c.args.self.now.buffer))
    ∙ last_from_end c.args.n (between_cuts c.args.low.now c.args.high.now (records_in c.args.self.now.state.now.history c.args.self.now.buffer))
