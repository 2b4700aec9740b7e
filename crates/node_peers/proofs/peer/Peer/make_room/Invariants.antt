use Rattle.node_peers.specs.PeerEvents.{IsSent}
use Rattle.node_peers.proofs.peer.Peer.make_room.Given as goal

abbrev pub invariant-loop : goal.invariant-loop
invariant-loop g l = IsSent l.fn.self l.self
