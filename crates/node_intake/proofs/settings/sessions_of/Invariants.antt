use Rattle.std.proofs.Common.{◌≡◌, take}
use Rattle.node_intake.specs.Settings.{sessions_of}
use Rattle.node_intake.proofs.settings.sessions_of.Given as goal

abbrev pub invariant-loop-network : goal.invariant-loop-network
invariant-loop-network l = l.sessions.items ≡ sessions_of (take l.network-index l.networks)
