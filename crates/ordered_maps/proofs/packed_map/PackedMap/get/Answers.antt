use Rattle.std.proofs.Common.{◌≡◌, get_or, sym, ap, ◌∙◌}
use Rattle.ordered_maps.specs.MapView.{get}
use Rattle.ordered_maps.specs.Pages.{page_at}
use Rattle.ordered_maps.proofs.PageLemmas.{page_read}
use Rattle.ordered_maps.proofs.ChangeLemmas.{held_found, gap_missed}
use Rattle.ordered_maps.proofs.packed_map.PackedMap.get.Goals as goal

pub returns-in-Ok : goal.returns-in-Ok
returns-in-Ok g c =
    let pages = c.self.inside.pages.items in
    let place = c.in-Ok.place in
    let held = c.in-Ok.ensures.held in
    let e = c.at.result.now in
    let read = page_read pages place.page c.index.result.now held.at.page c.index.ensures in
    let entry : e ≡ get_or (page_at pages place.page) place.index e = c.at.ensures ∙ ap (λ page. get_or page place.index e) read in
    sym (held_found g.met.K.Ord.total (g.Q.Lookup.key c.args.key.now) pages c.self.invariant place held e entry)
    ∙ ap (λ es. get g.K.Ord.cmp es (g.Q.Lookup.key c.args.key.now)) c.self.view_is

pub returns-in-Err : goal.returns-in-Err
returns-in-Err g c =
    sym (gap_missed g.met.K.Ord.total (g.Q.Lookup.key c.args.key.now) c.self.inside.pages.items c.self.invariant c.in-Err.field-0 c.in-Err.ensures.gap)
    ∙ ap (λ es. get g.K.Ord.cmp es (g.Q.Lookup.key c.args.key.now)) c.self.view_is
