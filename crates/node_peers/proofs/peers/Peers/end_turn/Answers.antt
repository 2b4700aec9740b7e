use Rattle.std.proofs.Common.{refl, sym}
use Rattle.std.specs.BTreeMap.{is_at}
use Rattle.std.specs.Ordering.{nat_cmp}
use Rattle.node_peers.proofs.TableLemmas.{served-bounded}
use Rattle.node_peers.proofs.peers.Peers.end_turn.Goals as goal

pub invariant_of-self-2 : goal.invariant_of-self-2
invariant_of-self-2 g c =
    served-bounded (is_at (nat_cmp c.args.number)) c.self.inside.entries.entries (c.get_mut.follows.lender c.end_turn.new.self).entries c.in-Some.entry.now c.end_turn.new.self _ _
    (c.get_mut.follows.holds c.end_turn.new.self).0 (sym c.in-Some.ensures.value) c.end_turn.ensures.same refl c.self.invariant
