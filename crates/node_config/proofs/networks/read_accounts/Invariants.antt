use Rattle.std.proofs.Common.{◌≡◌, true, take}
use Rattle.node_config.specs.Differing.{all_differ, same_account}
use Rattle.node_config.specs.Meaning.{IsAccountOf}
use Rattle.node_config.proofs.EntryLemmas.{AreRead}
use Rattle.node_config.proofs.networks.read_accounts.Given as goal

abbrev pub invariant-loop-item : goal.invariant-loop-item
invariant-loop-item l = record {
  differ : all_differ same_account l.accounts.items ≡ true;
  values : AreRead IsAccountOf (take l.item-index l.items) l.accounts.items;
}
