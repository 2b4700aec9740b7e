use Rattle.std.proofs.Common.{◌≡◌, ◌≤◌, length}
use Rattle.network_log.specs.Truth.{Leads}
use Rattle.hosted_network.proofs.GuestLemmas.{left_from}
use Rattle.hosted_network.proofs.parts.NetworkParts.clients_leave.Given as goal

abbrev pub invariant-loop-place : goal.invariant-loop-place
invariant-loop-place g l =
    (l.place ≤ length l.self.guests) × (l.place ≤ length l.fn.self.guests) × (l.self ≡ left_from l.place l.fn.self) × ∥ Leads g.C.Connection.facts l.fn.self l.self ∥₁

abbrev pub decreases-loop-place : goal.decreases-loop-place
decreases-loop-place g l = l.place
