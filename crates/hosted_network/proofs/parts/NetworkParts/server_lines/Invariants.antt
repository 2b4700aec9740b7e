use Rattle.network_log.specs.Truth.{Leads}
use Rattle.hosted_network.proofs.parts.NetworkParts.server_lines.Given as goal

abbrev pub invariant-loop : goal.invariant-loop
invariant-loop g l = ∥ Leads g.C.Connection.facts l.fn.self l.self ∥₁
