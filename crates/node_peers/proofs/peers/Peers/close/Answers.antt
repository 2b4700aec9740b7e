use Rattle.std.specs.BTreeMap.{is_at}
use Rattle.std.specs.Ordering.{nat_cmp}
use Rattle.node_peers.proofs.TableLemmas.{removed-bounded}
use Rattle.node_peers.proofs.peers.Peers.close.Goals as goal

pub invariant_of-self-2 : goal.invariant_of-self-2
invariant_of-self-2 g c =
    removed-bounded (is_at (nat_cmp c.args.number)) c.self.inside.entries.entries c.remove.new.self.entries _ c.remove.ensures.entries c.self.invariant
