use Rattle.std.proofs.Common.{ap, arith}
use Rattle.std.proofs.lemmas.Grind.{common_steps}
use Rattle.hosted_network.specs.Parts.{host_of}
use Rattle.hosted_network.proofs.ServerLemmas.{hears}
use Rattle.hosted_network.proofs.parts.NetworkParts.server_hears.Goals as goal

pub returns-then-eq-clause-heard : goal.returns-then-eq-clause-heard
returns-then-eq-clause-heard g c = grind (arith, common_steps)

pub returns-then-eq-clause-leads : goal.returns-then-eq-clause-leads
returns-then-eq-clause-leads g c =
    hears c.args.moment c.hear-heard.result c.self.view_is (ap host_of c.in-Some.is) (λ r. (c.hear-heard.ensures.left_out r).0)
    (returns-then-eq-clause-heard g c) c.requires

pub returns-else-eq-clause-heard : goal.returns-else-eq-clause-heard
returns-else-eq-clause-heard g c = grind (arith, common_steps)

pub returns-else-eq-clause-leads : goal.returns-else-eq-clause-leads
returns-else-eq-clause-leads g c =
    hears c.args.moment c.hear-heard.result c.self.view_is (ap host_of c.in-Some.is) (λ r. (c.hear-heard.ensures.left_out r).0)
    (returns-else-eq-clause-heard g c) c.requires
