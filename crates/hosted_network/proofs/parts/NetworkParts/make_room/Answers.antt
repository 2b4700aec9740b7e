use Rattle.std.proofs.Common.{ap}
use Rattle.std.proofs.Math.Logic.{∥∥₁_map}
use Rattle.hosted_network.specs.Parts.{host_of}
use Rattle.hosted_network.proofs.ServerLemmas.{to_server}
use Rattle.hosted_network.proofs.parts.NetworkParts.make_room.Goals as goal

pub make_room-requires : goal.make_room-requires
make_room-requires g c =
    ∥∥₁_map c.requires (to_server c.a_server_is_heard_over_its_own_connection.ensures c.self.view_is (ap host_of c.in-Some.is))
