use Rattle.std.proofs.Common.{◌-◌, ap, sym, ◌∙◌, refl, arith}
use Rattle.std.specs.Range.Bound.{bound_map}
use Rattle.ordered_maps.specs.Parts.{stands_before, last_passes}
use Rattle.ordered_maps.proofs.PartLemmas.{last_passes_at}
use Rattle.ordered_maps.proofs.packed_map.cuts.ends_before.Goals as goal

pub returns-in-Some : goal.returns-in-Some
returns-in-Some g c =
    let test = stands_before g.K.Ord.cmp (bound_map (λ q. g.Q.Lookup.key q.now) c.args.start) in
    let items = c.page.inside.entries.items in
    c.is_before.ensures ∙ ap test c.in-Some.ensures.lookup
    ∙ sym (last_passes_at test items (c.page.inside.entries.len - 1) c.in-Some.entry.now (omega (arith, c.in-Some.ensures.variant.0 refl)))
    ∙ ap (last_passes test) c.page.view_is
