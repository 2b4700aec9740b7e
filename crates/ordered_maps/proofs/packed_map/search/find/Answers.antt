use Rattle.std.proofs.Common.{Ordering, Err, length, ap, subst, arith}
use Rattle.std.specs.List.Sorted.{IsBinarySearchResult}
use Rattle.ordered_maps.proofs.PageLemmas.{page_read}
use Rattle.ordered_maps.proofs.SearchLemmas.{found_gap}
use Rattle.ordered_maps.proofs.packed_map.search.find.Goals as goal

pub returns-in-Err-clause-gap : goal.returns-in-Err-clause-gap
returns-in-Err-clause-gap g c =
    let pages = c.args.pages.now.items in
    let n = c.in-Some.page in
    let order : g.row.K.Denot × g.row.V.Denot → Ordering = λ e. g.K.Ord.cmp e.0 (g.Q.Lookup.key c.args.key.now) in
    let page = c.in-Some.ensures in
    let read = page_read pages n c.index.result.now page.within c.index.ensures in
    found_gap g.met.K.Ord.total (g.Q.Lookup.key c.args.key.now) pages n c.in-Err.index c.requires page (let l = ap length read in omega (arith, c.in-Err.ensures.bound))
    (subst (λ p. IsBinarySearchResult order p (Err c.in-Err.index)) read c.in-Err.ensures.position)
