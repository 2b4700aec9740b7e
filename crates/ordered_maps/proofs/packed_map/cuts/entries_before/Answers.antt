use Rattle.std.proofs.Common.{rules, ◌≡◌, true, false, sym, subst}
use Rattle.std.specs.List.Sorted.{IsPartitionPoint}
use Rattle.std.specs.Range.Bound.{bound_map}
use Rattle.std.proofs.lemmas.List.Sorted.{IsPartitionPoint-from_clause}
use Rattle.ordered_maps.specs.Parts.{stands_before}
use Rattle.ordered_maps.specs.MapView.{AreOrdered}
use Rattle.ordered_maps.proofs.PartLemmas.{page_falls}
use Rattle.ordered_maps.proofs.packed_map.cuts.entries_before.Goals as goal

pub returns-clause-cut : goal.returns-clause-cut
returns-clause-cut g c =
    let test = stands_before g.K.Ord.cmp (bound_map (λ q. g.Q.Lookup.key q.now) c.args.start) in
    let items = c.page.inside.entries.items in
    subst (λ es. IsPartitionPoint (λ e. test e ≡ true) (λ e. test e ≡ false) es c.partition_point.result) c.page.view_is
    (IsPartitionPoint-from_clause test items c.partition_point.result c.partition_point.ensures.partitioned
    (page_falls g.met.K.Ord.total (bound_map (λ q. g.Q.Lookup.key q.now) c.args.start) items (subst (λ es. AreOrdered g.K.Ord.cmp es) (sym c.page.view_is) c.requires))
    (λ a r f k. search rules))
