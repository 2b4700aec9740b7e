use Rattle.std.proofs.Math.Logic.{∥∥₁_map}
use Rattle.node_peers.proofs.LinkLemmas.{configured}
use Rattle.node_peers.proofs.peer_link.PeerLink.place.Goals as goal

pub returns-clause-peer : goal.returns-clause-peer
returns-clause-peer g c = ∥∥₁_map c.self.invariant configured
