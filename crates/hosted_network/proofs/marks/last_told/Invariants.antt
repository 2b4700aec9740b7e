use Rattle.std.proofs.Common.{◌≡◌, drop}
use Rattle.network_log.specs.NetworkState.{last_told}
use Rattle.hosted_network.proofs.marks.last_told.Given as goal

abbrev pub invariant-loop-marker : goal.invariant-loop-marker
invariant-loop-marker l = last_told (drop l.marker-index l.markers) l.buffer ≡ last_told l.markers l.buffer
