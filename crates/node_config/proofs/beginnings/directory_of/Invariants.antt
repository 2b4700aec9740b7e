use Rattle.std.proofs.Common.{◌≡◌, take}
use Rattle.node_config.specs.Beginnings.{directory_of}
use Rattle.node_config.proofs.beginnings.directory_of.Given as goal

abbrev pub invariant-loop-account : goal.invariant-loop-account
invariant-loop-account l = l.made ≡ directory_of (take l.account-index l.accounts) l.networks
