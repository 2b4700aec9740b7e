use Rattle.std.proofs.Common.{◌≡◌, Some, rules}
use Rattle.std.specs.Prelude.{slice_get}
use Rattle.std.proofs.Math.Logic.{∥∥₁_map}
use Rattle.hosted_network.proofs.LogLemmas.{begun}
use Rattle.hosted_network.proofs.network.HostedNetwork.new.Goals as goal

pub invariant_of-result : goal.invariant_of-result
invariant_of-result g c =
    let there : slice_get g.C.Connection.facts.accounts.networks (g.V.NetworkView.place c.args.view) ≡ Some c.in-Some.config.now = search rules in
    ∥∥₁_map c.requires.held (begun there c.in-Ok.ensures)
