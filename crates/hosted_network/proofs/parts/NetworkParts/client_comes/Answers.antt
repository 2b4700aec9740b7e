use Rattle.std.proofs.Common.{ℕ, rules, subst}
use Rattle.std.proofs.Math.Logic.{∥∥₁_map₂}
use Rattle.hosted_network.proofs.ArrivingLemmas.{comes}
use Rattle.hosted_network.proofs.parts.NetworkParts.client_comes.Goals as goal

pub returns-clause-leads : goal.returns-clause-leads
returns-clause-leads g c =
    ∥∥₁_map₂ c.requires.arrived c.join.ensures.evidence (λ a j.
    comes c.in-Some.joins c.self.view_is a
    (subst (λ (p : ℕ). g.C.Connection.facts.joined c.args.client.serial p c.self.inside.joins) c.place.ensures j)
    c.join.ensures.joined (search rules) c.in-Ok.ensures.items)
