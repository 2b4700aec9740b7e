use Rattle.std.proofs.Common.{◌≡◌, true, false, take}
use Rattle.node_config.specs.Differing.{all_differ, same_peer, has_peer}
use Rattle.node_config.specs.Meaning.{IsPeerOf}
use Rattle.node_config.proofs.EntryLemmas.{AreRead}
use Rattle.node_config.proofs.peers.read_peers.Given as goal

abbrev pub invariant-loop-item : goal.invariant-loop-item
invariant-loop-item l = record {
  differ : all_differ same_peer l.peers.items ≡ true;
  others : has_peer l.peers.items l.node ≡ false;
  values : AreRead IsPeerOf (take l.item-index l.items) l.peers.items;
}
