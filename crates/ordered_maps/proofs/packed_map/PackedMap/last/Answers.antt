use Rattle.std.proofs.Common.{◌≡◌, ◌-◌, sym, subst, refl, get_or, arith}
use Rattle.ordered_maps.specs.Ends.{IsGreatest}
use Rattle.ordered_maps.proofs.EntriesLemmas.{greatest}
use Rattle.ordered_maps.proofs.packed_map.PackedMap.last.Goals as goal

pub returns-clause-greatest : goal.returns-clause-greatest
returns-clause-greatest g c =
    let pages = c.self.inside.pages.items in
    let page = c.branch.inside.entries.items in
    let entry = c.in_ok-key.field-0.now in
    let m = c.self.inside.pages.len - 1 in
    let back : page ≡ get_or pages m page = subst (λ p. p ≡ get_or pages m p) (sym c.branch.view_is) c.in_ok-back.ensures.lookup in
    subst (IsGreatest g.K.Ord.cmp entry) c.self.view_is
    (greatest g.met.K.Ord.total pages page entry m (c.branch.inside.entries.len - 1)
    (omega (arith, c.in_ok-back.ensures.variant.0 refl)) back (omega (arith, c.in_ok-key.ensures.variant.0 refl)) c.in_ok-key.ensures.lookup
    c.self.invariant.ordered)
