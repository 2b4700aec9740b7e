use Rattle.std.proofs.Common.{rules, sym, length, ◌≡◌}
use Rattle.std.specs.BTreeMap.{is_at}
use Rattle.std.specs.Ordering.{nat_cmp}
use Rattle.std.specs.Vec.{with_item}
use Rattle.node_peers.proofs.TableLemmas.{served-bounded}
use Rattle.node_peers.proofs.peers.Peers.advance.Goals as goal

pub invariant_of-self-2 : goal.invariant_of-self-2
invariant_of-self-2 g c =
    let same : length (with_item c.self.inside.records c.in-Some.place c.advance.new.kept).items ≡ length c.self.inside.records.items = search rules in
    served-bounded (is_at (nat_cmp c.args.number)) c.self.inside.entries.entries (c.get_mut-2.follows.lender c.advance.new.self).entries c.in-Some-get_mut-2.entry.now c.advance.new.self _ _
    (c.get_mut-2.follows.holds c.advance.new.self).0 (sym c.in-Some-get_mut-2.ensures.value) c.advance.ensures.same same c.self.invariant
