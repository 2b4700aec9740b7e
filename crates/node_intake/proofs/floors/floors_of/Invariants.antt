use Rattle.std.proofs.Common.{◌≡◌, take}
use Rattle.std.specs.List.{filter_map}
use Rattle.node_intake.specs.Floors.{floor_of}
use Rattle.node_intake.proofs.floors.floors_of.Given as goal

-- the floors of the accounts so far
abbrev pub invariant-loop-account : goal.invariant-loop-account
invariant-loop-account l = l.floors.items ≡ filter_map floor_of (take l.account-index l.accounts)
