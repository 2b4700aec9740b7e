use Rattle.std.proofs.Common.{refl, sym}
use Rattle.std.specs.BTreeMap.{is_at}
use Rattle.std.specs.Ordering.{nat_cmp}
use Rattle.node_peers.proofs.TableLemmas.{served-bounded}
use Rattle.node_peers.proofs.peers.Peers.repeat_hello.Goals as goal

pub invariant_of-self-2 : goal.invariant_of-self-2
invariant_of-self-2 g c =
    served-bounded (is_at (nat_cmp c.args.number)) c.self.inside.entries.entries (c.get_mut.follows.lender c.repeat_hello.new.self).entries c.in-Some.entry.now c.repeat_hello.new.self _ _
    (c.get_mut.follows.holds c.repeat_hello.new.self).0 (sym c.in-Some.ensures.value) c.repeat_hello.ensures refl c.self.invariant
