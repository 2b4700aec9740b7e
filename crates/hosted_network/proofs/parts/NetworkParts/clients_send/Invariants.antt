use Rattle.std.proofs.Common.{◌≡◌, length}
use Rattle.network_log.specs.Truth.{Leads}
use Rattle.hosted_network.proofs.parts.NetworkParts.clients_send.Given as goal

abbrev pub invariant-loop-place : goal.invariant-loop-place
invariant-loop-place g l = record {
  leads : ∥ Leads g.C.Connection.facts l.fn.self l.self ∥₁;
  count : length l.self.guests ≡ length l.fn.self.guests;
  end : length l.fn.self.guests ≡ l.place-end;
}
