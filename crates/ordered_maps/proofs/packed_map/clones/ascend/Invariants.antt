use Rattle.std.proofs.Common.{◌≡◌, ◌∷◌, ◌++◌, List, length}
use Rattle.std.specs.List.Sorted.{IsStrictlySortedBy}
use Rattle.std.specs.Map.{keys_of}
use Rattle.ordered_maps.specs.Pages.{entries_of}
use Rattle.ordered_maps.proofs.packed_map.clones.ascend.Given as goal

-- the keys that were seen ascend
abbrev pub invariant-loop-key : goal.invariant-loop-key
invariant-loop-key g l = (seen : List g.row.K.Denot) × (keys_of (entries_of l.pages.items) ≡ keys_of l.rest ++ l.above ∷ seen) × IsStrictlySortedBy g.K.Ord.cmp (l.above ∷ seen)

abbrev pub decreases-loop-key : goal.decreases-loop-key
decreases-loop-key g l = length l.rest
