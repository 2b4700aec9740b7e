use Rattle.std.proofs.Common.{◌≡◌, map, take}
use Rattle.node_intake.specs.Settings.{peer_terms_of}
use Rattle.node_intake.proofs.settings.all_peer_terms_of.Given as goal

abbrev pub invariant-loop-peer : goal.invariant-loop-peer
invariant-loop-peer l = l.all.items ≡ map peer_terms_of (take l.peer-index l.peers)
