use Rattle.std.proofs.Common.{ap, take}
use Rattle.std.proofs.Math.Logic.{∥∥₁_map}
use Rattle.hosted_network.specs.Parts.{host_of}
use Rattle.hosted_network.proofs.ServerLemmas.{gets, got}
use Rattle.hosted_network.proofs.parts.NetworkParts.server_reads.Goals as goal

pub returns-clause-got : goal.returns-clause-got
returns-clause-got g c =
    (take c.in_ok-receive.field-0 c.receive.new.chunk, got g.C.Connection.facts _ c.self.view_is (ap host_of c.in-Some.is) c.in_ok-receive.ensures.event)

pub returns-clause-leads : goal.returns-clause-leads
returns-clause-leads g c =
    let at = ap host_of c.in-Some.is in
    ∥∥₁_map c.in_ok-receive.ensures.evidence
    (gets (take c.in_ok-receive.field-0 c.receive.new.chunk) c.self.view_is at (got g.C.Connection.facts _ c.self.view_is at c.in_ok-receive.ensures.event))
