use Rattle.std.proofs.Common.{◌≤◌}
use Rattle.network_server.specs.declared.opening.TheConstants.{MOST_OWED}
use Rattle.network_server.proofs.opening.bound_for.Given as goal

abbrev pub invariant-loop-channel : goal.invariant-loop-channel
invariant-loop-channel l = MOST_OWED ≤ l.bound
