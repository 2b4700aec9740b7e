use Rattle.std.proofs.Common.{rules, arith}
use Rattle.std.specs.Range.Bound.{bound_map}
use Rattle.std.proofs.lemmas.List.Sorted.{IsPartitionPoint-from_clause}
use Rattle.ordered_maps.specs.Parts.{stands_before, last_passes}
use Rattle.ordered_maps.proofs.PartLemmas.{no_page, pages_fall}
use Rattle.ordered_maps.proofs.packed_map.cuts.pages_before.Goals as goal

pub returns-then-not-ends_before-clause-cut : goal.returns-then-not-ends_before-clause-cut
returns-then-not-ends_before-clause-cut g c = (
  λ k d low high. absurd (omega arith),
  no_page g.met.K.Ord.total (bound_map (λ q. g.Q.Lookup.key q.now) c.args.start) c.args.pages.now.items c.in-Some.front.now c.requires.filled c.requires.ordered c.in-Some.ensures.lookup (search rules),
)

pub returns-clause-cut : goal.returns-clause-cut
returns-clause-cut g c =
    IsPartitionPoint-from_clause (last_passes (stands_before g.K.Ord.cmp (bound_map (λ q. g.Q.Lookup.key q.now) c.args.start))) c.args.pages.now.items c.partition_point.result c.partition_point.ensures.partitioned
    (pages_fall g.met.K.Ord.total (bound_map (λ q. g.Q.Lookup.key q.now) c.args.start) c.args.pages.now.items c.requires.filled c.requires.ordered)
    (λ a r f k. search rules)
