use Rattle.std.proofs.Common.{sym, ◌∙◌, subst}
use Rattle.ordered_maps.specs.MapView.{AreOrdered}
use Rattle.ordered_maps.specs.Pages.{entries_of}
use Rattle.ordered_maps.proofs.ChangeLemmas.{popped_greatest, popped_without, popped_ordered, popped_none}
use Rattle.ordered_maps.proofs.packed_map.PackedMap.pop_last.Goals as goal

pub invariant_of-self : goal.invariant_of-self
invariant_of-self g c = record {
  filled = c.take_last.ensures.filled;
  ordered = popped_ordered g.met.K.Ord.total _ _ c.take_last.result c.self.invariant.ordered c.take_last.ensures.out;
}

pub returns-clause-none : goal.returns-clause-none
returns-clause-none g c none =
    let empty = c.take_last.ensures.none none in
    (sym c.self.view_is ∙ empty, popped_none (entries_of c.self.inside.pages.items) (entries_of c.take_last.new.pages.items) c.take_last.result c.take_last.ensures.out none ∙ empty)

pub returns-clause-greatest : goal.returns-clause-greatest
returns-clause-greatest g c =
    let out = sym c.self.view_is ∙ c.take_last.ensures.out in
    popped_greatest g.met.K.Ord.total c.args.self.now _ c.take_last.result (subst (AreOrdered g.K.Ord.cmp) c.self.view_is c.self.invariant.ordered) out

pub returns-clause-without : goal.returns-clause-without
returns-clause-without g c =
    let out = sym c.self.view_is ∙ c.take_last.ensures.out in
    popped_without g.met.K.Ord.total c.args.self.now _ c.take_last.result (subst (AreOrdered g.K.Ord.cmp) c.self.view_is c.self.invariant.ordered) out
