use Rattle.std.proofs.Common.{rules, of_calls, subst}
use Rattle.std.proofs.lemmas.Fn.{always_returns_same}
use Rattle.std.specs.List.Sorted.{IsBinarySearchResult}
use Rattle.ordered_maps.proofs.page.MapPage.find.Goals as goal

pub returns-clause-position : goal.returns-clause-position
returns-clause-position g c =
    let order = λ (e : g.row.K.Denot × g.row.V.Denot). g.K.Ord.cmp e.0 (g.Q.Lookup.key c.args.key.now) in
    let key = always_returns_same _ _ _ (λ a r f k. search (rules, of_calls)) in
    subst (λ es. IsBinarySearchResult order es c.binary_search_by.result) c.self.view_is (c.binary_search_by.ensures.position order key)
