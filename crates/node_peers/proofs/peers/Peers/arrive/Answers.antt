use Rattle.std.proofs.Common.{rules, sym, length, ◌≡◌}
use Rattle.std.specs.BTreeMap.{is_at}
use Rattle.std.specs.Ordering.{nat_cmp}
use Rattle.std.specs.Vec.{with_item}
use Rattle.node_peers.proofs.TableLemmas.{served-bounded}
use Rattle.node_peers.proofs.peers.Peers.arrive.Goals as goal

pub invariant_of-self-2 : goal.invariant_of-self-2
invariant_of-self-2 g c =
    let same : length (with_item c.self.inside.records c.in_ok-place.place c.carry_out.new.kept).items ≡ length c.self.inside.records.items = search rules in
    served-bounded (is_at (nat_cmp c.args.number)) c.self.inside.entries.entries (c.get_mut-2.follows.lender c.carry_out.new.self).entries c.in-Some-get_mut.entry.now c.carry_out.new.self _ _
    (c.get_mut-2.follows.holds c.carry_out.new.self).0 (sym c.in-Some-get_mut.ensures.value) c.carry_out.ensures.same same c.self.invariant
