use Rattle.std.proofs.Common.{◌≡◌, sym, subst, refl, get_or, arith}
use Rattle.ordered_maps.specs.Ends.{IsLeast}
use Rattle.ordered_maps.specs.Pages.{entries_of}
use Rattle.ordered_maps.proofs.PartLemmas.{first_entry}
use Rattle.ordered_maps.proofs.EntriesLemmas.{least}
use Rattle.ordered_maps.proofs.packed_map.PackedMap.first.Goals as goal

pub returns-clause-least : goal.returns-clause-least
returns-clause-least g c =
    let pages = c.self.inside.pages.items in
    let page = c.branch.inside.entries.items in
    let entry = c.in_ok-key.field-0.now in
    let front : page ≡ get_or pages 0 page = subst (λ p. p ≡ get_or pages 0 p) (sym c.branch.view_is) c.in_ok-front.ensures.lookup in
    subst (IsLeast g.K.Ord.cmp entry) c.self.view_is
    (least g.met.K.Ord.total (entries_of pages) entry
    (first_entry pages page entry (omega (arith, c.in_ok-front.ensures.variant.0 refl)) front (omega (arith, c.in_ok-key.ensures.variant.0 refl)) c.in_ok-key.ensures.lookup)
    c.self.invariant.ordered)
