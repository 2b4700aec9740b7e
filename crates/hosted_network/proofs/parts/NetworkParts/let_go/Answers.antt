use Rattle.std.proofs.Common.{rules}
use Rattle.hosted_network.proofs.GuestLemmas.{leaves}
use Rattle.hosted_network.proofs.parts.NetworkParts.let_go.Goals as goal

pub returns-clause-leads : goal.returns-clause-leads
returns-clause-leads g c =
    ∣ leaves c.args.place c.self.view_is c.requires c.index.ensures (search rules) c.remove.ensures.items ∣₁
