use Rattle.std.proofs.Common.{map}
use Rattle.std.specs.Map.Iter.{deref_pair}
use Rattle.node_peers.proofs.TableLemmas.{IsOldestSoFar}
use Rattle.node_peers.proofs.peers.Peers.oldest.Given as goal

abbrev pub invariant-loop-number : goal.invariant-loop-number
invariant-loop-number g l = IsOldestSoFar l.self.seats (map deref_pair l.yielded) l.first
