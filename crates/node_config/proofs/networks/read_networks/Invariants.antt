use Rattle.std.proofs.Common.{◌≡◌, true, take}
use Rattle.node_config.specs.Differing.{all_differ, same_network, have_accounts}
use Rattle.node_config.specs.Meaning.{IsNetworkOf}
use Rattle.node_config.proofs.EntryLemmas.{AreRead}
use Rattle.node_config.proofs.networks.read_networks.Given as goal

abbrev pub invariant-loop-item : goal.invariant-loop-item
invariant-loop-item l = record {
  differ : all_differ same_network l.networks.items ≡ true;
  known : have_accounts l.accounts l.networks.items ≡ true;
  values : AreRead IsNetworkOf (take l.item-index l.items) l.networks.items;
}
