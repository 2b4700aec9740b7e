use Rattle.std.proofs.Common.{◌<◌, Bool, List, refl, not, length, rules, of_calls, arith, sym, ap, ◌∙◌}
use Rattle.std.proofs.lemmas.Fn.{always_returns_same}
use Rattle.ordered_maps.specs.Pages.{starts_above}
use Rattle.ordered_maps.proofs.PageLemmas.{page_read}
use Rattle.ordered_maps.proofs.SearchLemmas.{above_all, partitioned, found_page}
use Rattle.ordered_maps.proofs.packed_map.search.page_of.Goals as goal

pub returns-then-starts_above : goal.returns-then-starts_above
returns-then-starts_above g c =
    let pages = c.args.pages.now.items in
    let above : List (g.row.K.Denot × g.row.V.Denot) → Bool = starts_above g.K.Ord.cmp (g.Q.Lookup.key c.args.key.now) in
    let long = c.args.pages.now.ok.0 in
    let within : 0 < length pages = let h = c.in_ok-front.ensures.variant.0 refl in omega arith in
    let read = page_read pages 0 c.in_ok-front.field-0.now within c.in_ok-front.ensures.lookup in
    above_all g.met.K.Ord.total (g.Q.Lookup.key c.args.key.now) pages 0 c.requires within (ap above (sym read) ∙ sym c.starts_above.ensures ∙ c.if-starts_above.true)

pub returns : goal.returns
returns g c =
    let pages = c.args.pages.now.items in
    let long = c.args.pages.now.ok.0 in
    let test : List (g.row.K.Denot × g.row.V.Denot) → Bool = λ page. not (starts_above g.K.Ord.cmp (g.Q.Lookup.key c.args.key.now) page) in
    let key = always_returns_same _ _ _ (λ a r f k. search (rules, of_calls)) in
    found_page g.met.K.Ord.total (g.Q.Lookup.key c.args.key.now) pages c.partition_point-begun.result c.checked_sub.result c.requires (omega (arith, c.partition_point-begun.ensures.bound))
    (c.partition_point-begun.ensures.partitioned test key (partitioned g.met.K.Ord.total (g.Q.Lookup.key c.args.key.now) pages c.requires)) c.checked_sub.ensures
