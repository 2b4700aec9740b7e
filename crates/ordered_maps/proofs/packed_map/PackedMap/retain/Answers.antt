use Rattle.std.proofs.Common.{sym, subst}
use Rattle.ordered_maps.specs.MapView.{AreOrdered, IsRetained}
use Rattle.ordered_maps.specs.Pages.{entries_of}
use Rattle.ordered_maps.proofs.RetainLemmas.{ordered_retained, is_retained}
use Rattle.ordered_maps.proofs.packed_map.PackedMap.retain.Goals as goal

pub invariant_of-self : goal.invariant_of-self
invariant_of-self g c =
    let keeps = g.T.Keeps.is_kept c.args.test.now in
    record {
      filled = c.retain.ensures.filled;
      ordered = subst (λ es. AreOrdered g.K.Ord.cmp es) (sym c.retain.ensures.kept) (ordered_retained g.met.K.Ord.total keeps (entries_of c.self.inside.pages.items) c.self.invariant.ordered);
    }

pub returns : goal.returns
returns g c =
    let keeps = g.T.Keeps.is_kept c.args.test.now in
    subst (λ es. IsRetained g.K.Ord.cmp keeps es (entries_of c.retain.new.pages.items)) c.self.view_is
    (is_retained g.met.K.Ord.total keeps (entries_of c.self.inside.pages.items) (entries_of c.retain.new.pages.items) c.self.invariant.ordered c.retain.ensures.kept)
