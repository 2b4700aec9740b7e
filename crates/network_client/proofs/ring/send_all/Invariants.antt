use Rattle.std.proofs.Common.{◌≡◌, ◌++◌}
use Rattle.network_client.proofs.ring.send_all.Given as goal

abbrev pub invariant-loop : goal.invariant-loop
invariant-loop g l =
    (g.C.Connection.sent l.connection ++ l.ring.owed ≡ g.C.Connection.sent l.fn.connection ++ l.fn.ring.owed)
    × (g.C.Connection.received l.connection ≡ g.C.Connection.received l.fn.connection)
    × (g.C.Connection.origin l.connection ≡ g.C.Connection.origin l.fn.connection)
    × (g.C.Connection.serial l.connection ≡ g.C.Connection.serial l.fn.connection)
    × (g.C.Connection.joined l.connection ≡ g.C.Connection.joined l.fn.connection)
