use Rattle.std.proofs.Common.{rules, of_calls, ap, ◌∙◌}
use Rattle.std.specs.List.{filter}
use Rattle.std.proofs.lemmas.Fn.{filter_same}
use Rattle.ordered_maps.proofs.page.MapPage.retain.Goals as goal

pub returns-then-len-capacity : goal.returns-then-len-capacity
returns-then-len-capacity g c =
    let test = λ (e : g.row.K.Denot × g.row.V.Denot). g.T.Keeps.is_kept c.args.test.now e.1 in
    c.shrink_to_fit.ensures.items
    ∙ filter_same _ test _ (λ x b f k. search (rules, of_calls)) _ _ c.retain.ensures.filtered
    ∙ ap (filter test) c.self.view_is

pub returns-else-len-capacity : goal.returns-else-len-capacity
returns-else-len-capacity g c =
    let test = λ (e : g.row.K.Denot × g.row.V.Denot). g.T.Keeps.is_kept c.args.test.now e.1 in
    filter_same _ test _ (λ x b f k. search (rules, of_calls)) _ _ c.retain.ensures.filtered
    ∙ ap (filter test) c.self.view_is
