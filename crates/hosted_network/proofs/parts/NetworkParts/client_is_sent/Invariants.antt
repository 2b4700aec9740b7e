use Rattle.std.proofs.Common.{◌≡◌, length}
use Rattle.network_log.specs.Truth.{Leads}
use Rattle.hosted_network.proofs.parts.NetworkParts.client_is_sent.Given as goal

abbrev pub invariant-loop : goal.invariant-loop
invariant-loop g l = record {
  leads : ∥ Leads g.C.Connection.facts l.fn.self l.self ∥₁;
  count : length l.self.guests ≡ length l.fn.self.guests;
}
