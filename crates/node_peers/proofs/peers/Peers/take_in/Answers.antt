use Rattle.std.proofs.Common.{rules, ◌≡◌, ◌<◌, false, length}
use Rattle.std.specs.Prelude.{is_some}
use Rattle.std.specs.List.{count_by}
use Rattle.std.specs.Map.{values_of}
use Rattle.node_peers.specs.PeersState.{room_for}
use Rattle.node_peers.specs.Seat.{is_waiting}
use Rattle.node_peers.proofs.TableLemmas.{inserted-bounded}
use Rattle.node_peers.proofs.peers.Peers.take_in.Goals as goal

pub invariant_of-self : goal.invariant_of-self
invariant_of-self g c =
    let room : is_some c.new-entry.result.dialed ≡ false → count_by is_waiting (values_of c.self.inside.entries.entries) < room_for (length c.self.inside.records.items) = search rules in
    inserted-bounded c.insert.result c.self.inside.entries.entries c.insert.new.self.entries c.args.number c.new-entry.result _
    c.insert.ensures.was_ordered c.insert.ensures.entries c.insert.ensures.err room c.self.invariant
