use Rattle.std.proofs.Common.{◌≡◌, ◌+◌, take}
use Rattle.network_server.specs.Entries.{posted_count}
use Rattle.hosted_network.proofs.batch_parts.first_parts.Given as goal

abbrev pub invariant-loop-at : goal.invariant-loop-at
invariant-loop-at l = posted_count (take l.at l.parts) + l.left ≡ l.count
