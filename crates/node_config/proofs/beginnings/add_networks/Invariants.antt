use Rattle.std.proofs.Common.{◌≡◌, ◌++◌, take}
use Rattle.node_config.specs.Beginnings.{networks_of}
use Rattle.node_config.proofs.beginnings.add_networks.Given as goal

abbrev pub invariant-loop-network : goal.invariant-loop-network
invariant-loop-network l = l.made ≡ record l.fn.made {
  networks = l.fn.made.networks ++ networks_of (take l.network-index l.networks) l.account;
}
