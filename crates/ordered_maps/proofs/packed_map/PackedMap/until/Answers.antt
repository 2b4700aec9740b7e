use Rattle.std.proofs.Common.{ap, sym, ◌∙◌, append-nil}
use Rattle.std.specs.Range.Bound.{bound_map}
use Rattle.std.specs.VecDeque.Iter.{deque_iter_rest}
use Rattle.std.specs.BTreeMap.Range.{entries_between}
use Rattle.std.specs.declared.ops.Bound.TheVariants.{Unbounded}
use Rattle.ordered_maps.specs.Pages.{entries_of}
use Rattle.ordered_maps.proofs.PartLemmas.{kept_all}
use Rattle.ordered_maps.proofs.packed_map.PackedMap.until.Goals as goal

pub returns-in-Unbounded-clause-between : goal.returns-in-Unbounded-clause-between
returns-in-Unbounded-clause-between g c =
    append-nil (entries_of (deque_iter_rest c.iter.result)) ∙ ap entries_of c.iter.ensures.rest ∙ c.self.view_is
    ∙ sym (kept_all g.K.Ord.cmp c.args.self.now)
    ∙ ap (λ end. entries_between g.K.Ord.cmp Unbounded (bound_map (λ q. g.Q.Lookup.key q.now) end) c.args.self.now) (sym c.in-Unbounded.is)
