use Rattle.std.proofs.Common.{◌≡◌}
use Rattle.network_server.proofs.server.Server.make_room.Given as goal

abbrev pub invariant-loop : goal.invariant-loop
invariant-loop g l = l.self.host ≡ l.fn.self.host
