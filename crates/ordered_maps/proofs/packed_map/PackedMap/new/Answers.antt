use Rattle.std.proofs.Common.{sym, subst}
use Rattle.ordered_maps.specs.Pages.{AreInPages}
use Rattle.ordered_maps.proofs.SearchLemmas.{no_pages}
use Rattle.ordered_maps.proofs.packed_map.PackedMap.new.Goals as goal

pub invariant_of-result : goal.invariant_of-result
invariant_of-result g c = subst (AreInPages g.K.Ord.cmp) (sym c.new.ensures.items) (no_pages g.K.Ord.cmp)
