use Rattle.std.proofs.Common.{◌≡◌, take}
use Rattle.node_config.specs.Beginnings.{names_of}
use Rattle.node_config.proofs.beginnings.names_of.Given as goal

abbrev pub invariant-loop-peer : goal.invariant-loop-peer
invariant-loop-peer l = l.names.items ≡ names_of (take l.peer-index l.peers)
