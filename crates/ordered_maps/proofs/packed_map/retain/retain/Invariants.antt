use Rattle.std.proofs.Common.{◌≡◌}
use Rattle.ordered_maps.proofs.RetainLemmas.{retained}
use Rattle.ordered_maps.proofs.packed_map.retain.retain.Given as goal

-- the pages before the index were gone through
abbrev pub invariant-loop-index : goal.invariant-loop-index
invariant-loop-index g l = l.pages.items ≡ retained (λ e. g.T.Keeps.is_kept l.fn.test e.1) l.index l.fn.pages.items
