use Rattle.std.proofs.Common.{subst}
use Rattle.ordered_maps.specs.MapView.{IsWithout}
use Rattle.ordered_maps.specs.Pages.{entries_of}
use Rattle.ordered_maps.proofs.ChangeLemmas.{out_without, out_ordered, gap_without}
use Rattle.ordered_maps.proofs.packed_map.PackedMap.take_out.Goals as goal

pub invariant_of-self : goal.invariant_of-self
invariant_of-self g c =
    let pages = c.self.inside.pages.items in
    let place = c.in-Ok.place in
    record {
      filled = c.take_out.ensures.filled;
      ordered = out_ordered g.met.K.Ord.total (g.Q.Lookup.key c.args.key.now) pages c.self.invariant place c.in-Ok.ensures.held c.take_out.new.pages.items c.take_out.ensures.out;
    }

pub returns-in-Ok : goal.returns-in-Ok
returns-in-Ok g c =
    subst (λ es. IsWithout g.K.Ord.cmp es (g.Q.Lookup.key c.args.key.now) (entries_of c.take_out.new.pages.items)) c.self.view_is
    (out_without g.met.K.Ord.total (g.Q.Lookup.key c.args.key.now) c.self.inside.pages.items c.self.invariant c.in-Ok.place c.in-Ok.ensures.held c.take_out.new.pages.items c.take_out.ensures.out)

pub returns-in_default : goal.returns-in_default
returns-in_default g c =
    subst (λ es. IsWithout g.K.Ord.cmp es (g.Q.Lookup.key c.args.key.now) es) c.self.view_is
    (gap_without g.met.K.Ord.total (g.Q.Lookup.key c.args.key.now) c.self.inside.pages.items c.self.invariant c.in_default.field-0 c.in_default.ensures.gap)
